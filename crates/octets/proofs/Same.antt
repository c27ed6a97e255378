-- Comparing strings.
use Rattle.std.proofs.Common.{◌≡◌, ℕ, Bool, true, false, eqb, List, [], ◌∷◌, sym, refl, ap, ◌∙◌, ⊎_elim, arith}
use lib.Bits.{bit_or, bit_xor, or_add_and, xor_add_and, and_le_l, and_le_r}
use Rattle.std.proofs.lemmas.Bool.{cases_Bool, cond-true, cond-false, eqb-true, eq-eqb, false≢true}
use Rattle.octets.specs.Strings.{same}

pub is_same : (xs : List ℕ) → same xs xs ≡ true
unfolding same
is_same [] = refl
is_same (x ∷ xs) = cond-true (eqb x x) (same xs xs) false (eq-eqb x x refl) ∙ is_same xs

pub same_is : (xs ys : List ℕ) → same xs ys ≡ true → xs ≡ ys
unfolding same
same_is [] [] e = refl
same_is [] (y ∷ ys) e = absurd (false≢true e)
same_is (x ∷ xs) [] e = absurd (false≢true e)
same_is (x ∷ xs) (y ∷ ys) e =
    ⊎_elim
    (λ t. let h = eqb-true x y t in let r = same_is xs ys (sym (cond-true (eqb x y) (same xs ys) false t) ∙ e) in cc)
    (λ f. absurd (false≢true (sym (cond-false (eqb x y) (same xs ys) false f) ∙ e)))
    (cases_Bool (eqb x y))

-- a test that is true exactly of equal strings
pub same_by : (b : Bool) (xs ys : List ℕ) → (b ≡ true → xs ≡ ys) → (xs ≡ ys → b ≡ true) → b ≡ same xs ys
same_by true xs ys p q = sym (is_same xs) ∙ ap (same xs) (p refl)
same_by false xs ys p q = ⊎_elim (λ t. q (same_is xs ys t) ∙ sym t) sym (cases_Bool (same xs ys))

pub or-none : (a b : ℕ) → bit_or a b ≡ 0 → (a ≡ 0) × (b ≡ 0)
or-none a b e = let s = or_add_and a b in let l = and_le_l a b in let r = and_le_r a b in (omega arith, omega arith)

pub xor-none : (a b : ℕ) → bit_xor a b ≡ 0 → a ≡ b
xor-none a b e = let s = xor_add_and a b in let l = and_le_l a b in let r = and_le_r a b in omega arith
