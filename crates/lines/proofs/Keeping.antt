-- A line to which bytes that end none are added, as far as the limit.
use Rattle.std.proofs.Common.{eqb, Some, None, position, [], ◌∷◌, refl, zero, suc, not, ◌≡◌, ℕ, ◌+◌, ◌-◌, ◌<◌, ◌≤◌, min, Bool, true, false, cond, List, ◌++◌, length, get_or, take, sym, ap, ◌∙◌, subst, inl, inr, arith}
use Rattle.std.proofs.lemmas.List.{length-append, length-take-le, get_or_append_left, get_or-append-add, get_or-take}
use Rattle.std.proofs.lemmas.Bool.{cases_lt}
use Rattle.std.specs.List.{position_or_len}
use Rattle.std.proofs.lemmas.Bool.{false≢true}
use Rattle.std.proofs.lemmas.Bool.Decides.{nat_tests}
use Rattle.lines.specs.Kept.{Kept}

past_other : (s : List ℕ) → ((k : ℕ) → k < position_or_len (λ b. eqb b 10) s → get_or s k 0 ≡ 10 → ⊥) → (t : Bool) (b : ℕ) (k : ℕ) → t ≡ eqb b 10 → k < cond (not t) (1 + position_or_len (λ b. eqb b 10) s) 0 → get_or (b ∷ s) k 0 ≡ 10 → ⊥
past_other s rest true b k e l i = absurd (omega (arith, l))
past_other s rest false b zero e l i = false≢true (e ∙ ap (λ b. eqb b 10) i)
past_other s rest false b (suc k) e l i = rest k (omega (arith, l)) i

-- no byte before the place of the first newline is one
before_first : (s : List ℕ) (k : ℕ) → k < position_or_len (λ b. eqb b 10) s → get_or s k 0 ≡ 10 → ⊥
before_first [] k l i = absurd (omega (arith, l))
before_first (b ∷ s) k l i = past_other s (before_first s) (eqb b 10) b k refl l i

pub before-newline : (s : List ℕ) (n : ℕ) → position (λ b. eqb b 10) s ≡ Some n → (n ≤ length s) × ((k : ℕ) → k < n → get_or s k 0 ≡ 10 → ⊥)
before-newline s n e =
    let place : n ≡ position_or_len (λ b. eqb b 10) s = grind (arith, nat_tests) in
    let within : n ≤ length s = grind (arith, nat_tests) in
    (within, λ k l. before_first s k (omega (arith, l)))

pub no-newline : (s : List ℕ) → position (λ b. eqb b 10) s ≡ None → (k : ℕ) → k < length s → get_or s k 0 ≡ 10 → ⊥
no-newline s e k l =
    let past : length s ≤ position_or_len (λ b. eqb b 10) s = grind (arith, nat_tests) in
    before_first s k (omega (arith, l))

kept_append : (most : ℕ) (s p : List ℕ) → Kept most s → length p + length s ≤ most → ((k : ℕ) → k < length p → get_or p k 0 ≡ 10 → ⊥) → Kept most (s ++ p)
kept_append most s p is fits none = record {
  short = let e = length-append s p in omega arith;
  unbroken = λ k h e. elim (cases_lt k (length s)) [
    | inl l ↦ is.unbroken k l (sym (get_or_append_left s p 0 k l) ∙ e)
    | inr l ↦
        let at : length s + (k - length s) ≡ k = omega arith in
        let f : get_or p (k - length s) 0 ≡ 10 = sym (get_or-append-add s p (k - length s) 0) ∙ ap (λ i. get_or (s ++ p) i 0) at ∙ e in
        let g = length-append s p in
        none (k - length s) (omega arith) f
  ];
}

pub kept_more : (most : ℕ) (s held after : List ℕ) (n end room : ℕ) (b : Bool) → Kept most s → end ≤ length held → room ≡ most - length s → n ≡ min end room → ((k : ℕ) → k < end → get_or held k 0 ≡ 10 → ⊥) → after ≡ cond b (s ++ take (n - 0) held) s → Kept most after
kept_more most s held after n end room false is within left e none f = subst (Kept most) (sym f) is
kept_more most s held after n end room true is within left e none f =
    let short = is.short in
    let l : length (take (n - 0) held) ≡ n - 0 = length-take-le (n - 0) held (omega arith) in
    subst (Kept most) (sym f)
    (kept_append most s (take (n - 0) held) is (omega arith)
    (λ k h g. none k (omega arith) (sym (get_or-take (n - 0) held k 0 (omega arith)) ∙ g)))
