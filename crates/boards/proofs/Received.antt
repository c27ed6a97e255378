-- A record that was taken in: the answer, and the numbers that are kept then.
use Rattle.std.proofs.Common.{◌≡◌, ℕ, ◌^◌, ◌≤◌, max, Bool, true, false, cond, ltb, List, length, take, Ok, Err, Result, sym, refl, ap, ◌∙◌, subst, arith}
use Rattle.std.proofs.lemmas.Bool.{ltb-false, le-ltb}
use Rattle.ciphers.specs.declared.wide.WideCipher.{Ghosts as Cipher}
use Rattle.hashes.specs.declared.keyed.KeyedHash.{Ghosts as Hash}
use Rattle.octets.specs.Strings.{same}
use Rattle.sealing.proofs.Examined.{examined}
use Rattle.sealing.proofs.Sealings.{tagged-by}
use Rattle.sealing.specs.Calls.{examining, opening, plain}
use Rattle.sealing.specs.Meaning.{Meaning, meaning, meaning_of}
use Rattle.sealing.specs.Sealing.{tag}
use Rattle.sealing.specs.declared.fault.SealingFault.{SealingFault}
use Rattle.sealing.specs.declared.plain_open.Opened.{Opened}
use Rattle.ends.specs.Receiving.{opened, windowed, examined_by, receiving}
use Rattle.ends.specs.Sending.{Parts, parts}
use Rattle.ends.specs.Window.{Accepts, judging, possible}
use Rattle.ends.specs.declared.fault.WindowFault.{WindowFault}
use Rattle.ends.specs.declared.window.Marks.{Marks}
use Rattle.sealing.specs.declared.line.Line.{Line}
use Rattle.boards.specs.Done.{done}
use Rattle.boards.specs.Plain.{on}
use Rattle.boards.specs.Receiving.{marks_of, standing, received_as, received_by, Leaves}
use Rattle.boards.specs.declared.fault.Fault.{Fault}
use Rattle.boards.specs.declared.fault.Fault.TheVariants.{State}
use Rattle.boards.specs.declared.state.ReceiverState.{ReceiverState}

-- the same parts mean the same
pub same-meaning : {C J : Type 0} (c : Cipher C) (j : Hash J) (l : Line C J) (p : Parts C J) → p ≡ parts l → meaning c j p.cipher p.hash p.line ≡ meaning_of c j l
same-meaning c j l p e = ap (λ x. meaning c j x.cipher x.hash x.line) e

-- an answer that is not refused passed each judge
opened-ok : (y : Result Opened SealingFault) (o : Opened) → Ok o ≡ opened y → Ok o ≡ y
opened-ok (Ok x) o e = cc
opened-ok (Err f) o e = absurd (let z : ◌≡◌ {A = ℕ} 0 1 = cc in omega arith)

windowed-ok : (v : Result (Unit {0}) WindowFault) (y : Result Opened SealingFault) (o : Opened) → Ok o ≡ windowed v y → Ok o ≡ y
windowed-ok (Ok x) y o e = opened-ok y o e
windowed-ok (Err f) y o e = absurd (let z : ◌≡◌ {A = ℕ} 0 1 = cc in omega arith)

examined-ok : (w : Marks) (x : Result ℕ SealingFault) (y : Result Opened SealingFault) (o : Opened) → Ok o ≡ examined_by w x y → Ok o ≡ y
examined-ok w (Ok n) y o e = windowed-ok (judging w n) y o e
examined-ok w (Err f) y o e = absurd (let z : ◌≡◌ {A = ℕ} 0 1 = cc in omega arith)

-- the number of a record that was taken in is a number of a line
numbered : (m : Meaning) (w : Marks) (header r : List ℕ) (work text : ℕ) (o : Opened) → Ok o ≡ receiving m w header r work text → o.number ≤ 2 ^ 40
numbered m w header r work text o e =
    let x = examining m.lowest m.highest m.carried (length header) r work text in
    let y = examined-ok w x (opening m header r work text) o e in
    let t = tagged-by r (same (take 16 (plain m r)) (tag m header)) x o (sym y) in
    (examined m.lowest m.highest m.carried (length header) r work text o.number t.1).last

stood : (b : Bool) (f : Fault) (x : Result Marks Fault) (w : Marks) → Ok w ≡ cond b (Err f) x → (b ≡ false) × (Ok w ≡ x)
stood true f x w e = absurd (let z : ◌≡◌ {A = ℕ} 0 1 = cc in omega arith)
stood false f x w e = (refl, e)

held : (b : Bool) (f : Fault) (v w : Marks) → Ok w ≡ cond b (Ok v) (Err f) → w ≡ v
held true f v w e = cc
held false f v w e = absurd (let z : ◌≡◌ {A = ℕ} 0 1 = cc in omega arith)

module _ (m : Meaning) (s s' : ReceiverState) (w w₁ w₂ : Marks) (header r : List ℕ) (work text : ℕ) (o : Opened)
    (before : Ok w ≡ standing s) (resumed : w₁ ≡ w) (took : Ok o ≡ receiving m w₁ header r work text) (accepts : Accepts w₁ o.number w₂)
    (after : marks_of s' ≡ w₂) (lasts : possible (marks_of s') ≡ true) where
  is : w ≡ marks_of s
  is = held (possible (marks_of s)) (State s.highest) (marks_of s) w (stood (ltb (2 ^ 40) s.highest) (State s.highest) _ w before).1

  low : s.highest ≤ 2 ^ 40
  low = ltb-false (2 ^ 40) s.highest (stood (ltb (2 ^ 40) s.highest) (State s.highest) _ w before).0

  pub took-answer : Ok (done o) ≡ received_by m s header r work text
  took-answer =
      ap received_as (took ∙ ap (λ v. receiving m v header r work text) resumed) ∙ ap (λ v. on v (λ x. received_as (receiving m x header r work text))) before

  joined : Accepts (marks_of s) o.number (marks_of s')
  joined = subst (λ v. Accepts v o.number (marks_of s')) (resumed ∙ is) (subst (λ v. Accepts w₁ o.number v) (sym after) accepts)

  pub took-after : Leaves (Ok (done o)) s s'
  took-after =
      let top : s'.highest ≡ max s.highest o.number = joined.highest in
      let few : o.number ≤ 2 ^ 40 = numbered m w₁ header r work text o took in
      let l : s.highest ≤ 2 ^ 40 = low in
      let test : ltb (2 ^ 40) s'.highest ≡ false = le-ltb (2 ^ 40) s'.highest (omega arith) in
      (joined, rw (test, lasts) refl)
