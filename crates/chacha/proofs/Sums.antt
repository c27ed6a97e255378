-- Lists of words added word by word.
use Rattle.std.proofs.Common.{◌≡◌, ℕ, zero, suc, ◌<◌, List, [], ◌∷◌, map, length, get_or, sym, refl, ap, ◌∙◌, arith}
use Rattle.std.proofs.lemmas.List.{ext_get_or}
use Rattle.std.proofs.lemmas.List.FromFn.{get_or-map-range_with_len, length-map-range_with_len}
use Rattle.std.specs.List.{range_with_len}
use Rattle.chacha.specs.Words.{plus, sums}

pub length-sums : (xs ys : List ℕ) → length (sums xs ys) ≡ length xs
unfolding sums
length-sums [] ys = refl
length-sums (x ∷ xs) [] = refl
length-sums (x ∷ xs) (y ∷ ys) = ap suc (length-sums xs ys)

get_or-sums : (xs ys : List ℕ) (i : ℕ) → i < length xs → i < length ys → get_or (sums xs ys) i 0 ≡ plus (get_or xs i 0) (get_or ys i 0)
unfolding sums
get_or-sums [] ys i p q = absurd (omega arith)
get_or-sums (x ∷ xs) [] i p q = absurd (omega arith)
get_or-sums (x ∷ xs) (y ∷ ys) zero p q = refl
get_or-sums (x ∷ xs) (y ∷ ys) (suc i) p q = get_or-sums xs ys i (omega arith) (omega arith)

-- the sums by their indices
pub sums-map : (xs ys : List ℕ) (n : ℕ) → length xs ≡ n → length ys ≡ n → sums xs ys ≡ map (λ i. plus (get_or xs i 0) (get_or ys i 0)) (range_with_len 0 n)
sums-map xs ys n p q =
    let v = λ (i : ℕ). plus (get_or xs i 0) (get_or ys i 0) in
    ext_get_or 0 (sums xs ys) (map v (range_with_len 0 n)) (length-sums xs ys ∙ p ∙ sym (length-map-range_with_len v 0 n))
    (λ i h. let l : i < length xs = omega (arith, length-sums xs ys) in get_or-sums xs ys i l (omega arith) ∙ sym (get_or-map-range_with_len v 0 n i i 0 (omega arith) (omega arith)))
