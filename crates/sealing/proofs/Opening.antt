-- What opening a record answers and leaves.
use Rattle.std.proofs.Common.{◌≡◌, ℕ, ◌-◌, Bool, true, List, ◌++◌, length, take, drop, Ok, Result, sym, refl, ap, ◌∙◌, ap₂, arith}
use native.Mathlib.Nat.{sub-zero}
use Rattle.std.proofs.lemmas.List.{take_all, length-drop}
use Rattle.sealing.specs.Calls.{tagged}
use Rattle.sealing.specs.declared.fault.SealingFault.{SealingFault}

pub tagged_ok : (b : Bool) (r : List ℕ) (x : Result ℕ SealingFault) (n k : ℕ) → Ok n ≡ x → true ≡ b → k ≡ length r - 24 → Ok (record { number = n; length = k }) ≡ tagged b r x
tagged_ok b r x n k e t h = rw (sym e, sym t, h) refl

-- the text copied out of what was deciphered
pub copied-out : (p body copy text : List ℕ) (n : ℕ) → body ≡ p → n ≡ length p → copy ≡ take (n - 16) (drop 16 body) → copy ++ drop (n - 16 - 0) text ≡ drop 16 p ++ drop (length (drop 16 p)) text
copied-out p body copy text n b h e =
    let d : length (drop 16 p) ≡ n - 16 = length-drop 16 p ∙ omega arith in
    let c : copy ≡ drop 16 p = e ∙ ap (λ (x : List ℕ). take (n - 16) (drop 16 x)) b ∙ take_all (n - 16) (drop 16 p) (omega arith) in
    ap₂ (λ (x y : List ℕ). x ++ y) c (ap (λ (k : ℕ). drop k text) (sub-zero (n - 16) ∙ sym d))
