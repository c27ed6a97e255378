-- Numbers kept of a window: when a window can stand so.
use Rattle.std.proofs.Common.{◌≡◌, ℕ, ◌+◌, ◌-◌, ◌/◌, ◌%◌, ◌^◌, ◌<◌, ◌≤◌, true, false, eqb, sym, refl, ap, ◌∙◌, inl, inr, arith}
use native.Mathlib.Nat.{zero-div}
use Rattle.std.specs.Int.{bit_at}
use Rattle.std.proofs.lemmas.Nat.{shr-shr}
use Rattle.std.proofs.lemmas.Nat.Bits.{bit_at-zero, bit_at_above, same_from_bits}
use Rattle.std.proofs.lemmas.Bool.{cases_lt, eq-eqb, ne_eqb, lt-ltb, le-ltb}
use Rattle.ends.specs.Window.{possible}

-- marks that end below the highest have no bit from there on
pub none_below : (top w : ℕ) → w < 2 ^ 64 → (top < 64 → w / 2 ^ top ≡ 0) → (n : ℕ) → top ≤ n → bit_at w n ≡ 0
none_below top w fits h n le =
    elim (cases_lt top 64) [
      | inl l ↦
          let e : w / 2 ^ top / 2 ^ (n - top) ≡ w / 2 ^ n = shr-shr w top (n - top) ∙ ap (λ (x : ℕ). w / 2 ^ x) (omega arith) in
          let z : w / 2 ^ top / 2 ^ (n - top) ≡ 0 = ap (λ (x : ℕ). x / 2 ^ (n - top)) (h l) ∙ zero-div (2 ^ (n - top)) in
          omega arith
      | inr l ↦ bit_at_above w 64 n fits (omega arith)
    ]

pub ends-below : (top w : ℕ) → ((n : ℕ) → top ≤ n → bit_at w n ≡ 0) → w / 2 ^ top ≡ 0
ends-below top w h =
    same_from_bits (w / 2 ^ top) 0 (λ i. ap (λ (x : ℕ). x % 2) (shr-shr w top i) ∙ h (top + i) (omega arith) ∙ sym (bit_at-zero i))

-- the test and the facts
pub possible-of : (top w : ℕ) → (1 ≤ top → w % 2 ≡ 1) → ((n : ℕ) → top ≤ n → bit_at w n ≡ 0) → possible (record { highest = top; marks = w }) ≡ true
possible-of top w topped above =
    let z : w / 2 ^ top ≡ 0 = ends-below top w above in
    elim (cases_lt top 1) [
      | inl l ↦ rw (lt-ltb top 1 l, lt-ltb top 64 (omega arith), eq-eqb (w / 2 ^ top) 0 z) refl
      | inr l ↦
          let odd : w % 2 ≡ 1 = topped l in
          let even : eqb (w % 2) 0 ≡ false = ne_eqb (w % 2) 0 (λ e. let o : ⊥ = omega arith in o) in
          elim (cases_lt top 64) [
            | inl m ↦ rw (le-ltb top 1 l, even, lt-ltb top 64 m, eq-eqb (w / 2 ^ top) 0 z) refl
            | inr m ↦ rw (le-ltb top 1 l, even, le-ltb top 64 m) refl
          ]
    ]
