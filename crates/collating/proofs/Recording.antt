-- A record that plain seal wrote.
use Rattle.std.proofs.Common.{◌≡◌, ℕ, ◌+◌, ◌≤◌, ltb, List, length, take, Ok, Result, sym, ap, ◌∙◌, arith}
use Rattle.std.proofs.lemmas.List.{length-take-le}
use Rattle.std.proofs.lemmas.Bool.{ltb-false}
use Rattle.refusals.specs.declared.Refusal.{Refusal}
use Rattle.sealing.proofs.Examined.{unless-ok, admitting-ok, numbered-ok, same-value}
use Rattle.sealing.specs.Calls.{fitting, sealing}
use Rattle.sealing.specs.Meaning.{Meaning}
use Rattle.sealing.specs.declared.fault.SealingFault.TheVariants.{HeaderLong, AreaShort}
use Rattle.ciphers.specs.Refusals.{verdict}
use Rattle.collating.specs.Answers.{counted, sealed}

-- a record fits its area
room : (m : Meaning) (n header text area k : ℕ) → Ok k ≡ sealing m n header text area → k ≤ area
room m n header text area k e =
    let f = numbered-ok n (fitting m header text area) k e in
    let p = unless-ok (ltb 256 header) (HeaderLong header) _ k f.0 in
    let q = admitting-ok (verdict m.lowest m.highest m.carried (16 + text)) _ k p.1 in
    let r = unless-ok (ltb area (text + 24)) (AreaShort (text + 24)) _ k q.1 in
    let l : text + 24 ≤ area = ltb-false area (text + 24) r.0 in
    let i : k ≡ text + 24 = same-value k (text + 24) r.1 in
    omega arith

-- what is told of a record that plain seal left at the front of an area of n bytes
pub recorded : (m : Meaning) (number header text n k : ℕ) (bytes area after : List ℕ) → Ok k ≡ sealing m number header text (length area) → length area ≡ n → length after ≡ length area → take k after ≡ bytes → ◌≡◌ {A = Result ℕ Refusal} (Ok k) (counted (sealed (sealing m number header text n) bytes))
recorded m number header text n k bytes area after e long kept front =
    let fits = room m number header text (length area) k e in
    let size : k ≡ length bytes = sym (length-take-le k after (omega arith)) ∙ ap length front in
    let given : Ok k ≡ sealing m number header text n = e ∙ ap (sealing m number header text) long in
    ap Ok size ∙ ap (λ v. counted (sealed v bytes)) given
