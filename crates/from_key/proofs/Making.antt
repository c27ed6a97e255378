-- What is answered where the length of a key is taken.
use Rattle.std.proofs.Common.{◌≡◌, ℕ, Bool, true, List, length, Ok, Err, Result, sym, ap, ◌∙◌}
use Rattle.std.proofs.lemmas.Bool.{cond-true}
use Rattle.refusals.specs.declared.KeyLength.{KeyLength}
use Rattle.from_key.specs.Taken.{wrong, taken}

pub made : (takes : ℕ → Bool) (bytes key : List ℕ) → takes (length bytes) ≡ true → key ≡ bytes → Ok key ≡ taken takes bytes
made takes bytes key t k =
    let found : Result (List ℕ) KeyLength = Ok bytes in
    ap Ok k ∙ sym (cond-true (takes (length bytes)) found (Err (wrong bytes)) t)
