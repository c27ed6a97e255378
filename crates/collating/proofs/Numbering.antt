-- A number, read digit by digit.
use Rattle.std.proofs.Common.{◌≡◌, ℕ, ◌+◌, ◌-◌, ◌*◌, ◌^◌, ◌<◌, ◌≤◌, true, false, cond, eqb, ltb, List, length, get_or, take, drop, Some, None, sym, ap, ◌∙◌, arith, lit≤}
use native.Mathlib.Nat.{pow-le-pow_right}
use native.Mathlib.Numerals.{unary_clauses}
use Rattle.std.proofs.lemmas.List.{drop_more, drop_all, take_all}
use Rattle.std.proofs.lemmas.Bool.{cond-true, cond-false, le-ltb}
use Rattle.std.specs.Char.{is_ascii_digit}
use Rattle.std.specs.List.{list_all}
use Rattle.forms.specs.Decimals.{valued}
use Rattle.collating.specs.Words.{number_of}

pub ten-more : (n : ℕ) → 10 ^ (n + 1) ≡ 10 ^ n * 10
ten-more n = simp unary_clauses

pub small-enough : (count value : ℕ) → count < 13 → value < 10 ^ count → value < 10 ^ 12
small-enough count value few small = omega (arith, pow-le-pow_right {n = 10} (lit≤ tt) {i = count} {j = 12} (omega arith))

pub one_more : (w : List ℕ) (i v : ℕ) → i < length w → valued v (drop i w) ≡ valued (v * 10 + (get_or w i 0 - 48)) (drop (i + 1) w)
unfolding valued
one_more w i v inside = ap (valued v) (drop_more w i 0 inside)

module _ (w : List ℕ) (some : eqb (length w) 0 ≡ false) (few : length w ≤ 13) where
  rest : number_of w ≡ cond (list_all is_ascii_digit w) (Some (valued 0 w)) None
  rest = cond-false (eqb (length w) 0) None _ some ∙ cond-false (ltb 13 (length w)) None _ (le-ltb 13 (length w) few)

  pub no_number : list_all is_ascii_digit w ≡ false → None ≡ number_of w
  no_number e = sym (rest ∙ cond-false (list_all is_ascii_digit w) (Some (valued 0 w)) None e)

  pub whole-number : (i v : ℕ) → length w ≤ i → valued 0 w ≡ valued v (drop i w) → list_all is_ascii_digit (take i w) ≡ true → Some v ≡ number_of w
  unfolding valued
  whole-number i v end is all =
      sym (rest ∙ cond-true (list_all is_ascii_digit w) (Some (valued 0 w)) None (ap (list_all is_ascii_digit) (sym (take_all i w end)) ∙ all) ∙ ap Some (is ∙ ap (valued v) (drop_all i w end)))
