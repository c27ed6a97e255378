-- The first word of a line, by the place of its first space.
use Rattle.std.proofs.Common.{◌≡◌, ℕ, ◌+◌, ◌-◌, ◌≤◌, eqb, List, [], length, take, drop, Some, None, sym, ap, ◌∙◌, position, arith}
use Rattle.std.specs.List.{position_or_len}
use Rattle.std.proofs.lemmas.List.{drop_all, take_all, length-drop}
use Rattle.std.proofs.lemmas.Bool.Decides.{nat_tests}
use Rattle.collating.specs.Words.{word, after}

module _ (s : List ℕ) where
  place : (n : ℕ) → Some n ≡ position (λ b. eqb b 32) s → n ≡ position_or_len (λ b. eqb b 32) s
  place n e = grind (arith, nat_tests)

  no_place : None ≡ position (λ b. eqb b 32) s → length s ≤ position_or_len (λ b. eqb b 32) s
  no_place e = grind (arith, nat_tests)

  pub before : (n : ℕ) → Some n ≡ position (λ b. eqb b 32) s → take n s ≡ word s
  unfolding word
  before n e = ap (λ k. take k s) (place n e)

  pub behind : (n : ℕ) → Some n ≡ position (λ b. eqb b 32) s → take (length s - (n + 1)) (drop (n + 1) s) ≡ after s
  unfolding after
  behind n e = take_all (length s - (n + 1)) (drop (n + 1) s) (simp length-drop (omega arith)) ∙ ap (λ k. drop (k + 1) s) (place n e)

  pub all : None ≡ position (λ b. eqb b 32) s → s ≡ word s
  unfolding word
  all e = sym (take_all (position_or_len (λ b. eqb b 32) s) s (no_place e))

  pub nothing : None ≡ position (λ b. eqb b 32) s → ◌≡◌ {A = List ℕ} [] (after s)
  unfolding after
  nothing e = let h = no_place e in sym (drop_all (position_or_len (λ b. eqb b 32) s + 1) s (omega arith))
