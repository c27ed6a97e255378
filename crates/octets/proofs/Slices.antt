-- A slice after a write to a part of it.
use Rattle.std.proofs.Common.{◌≡◌, ℕ, zero, suc, ◌-◌, ◌≤◌, min, List, [], ◌∷◌, ◌++◌, length, take, drop, refl, ap, ◌∙◌, ap₂, arith}
use borrow.Rule.Slice.PartMut.{put_mid}
use Rattle.std.proofs.lemmas.List.{drop_all, drop-replicate, length-append, length-drop, length-replicate, length-take, append-nil}
use Rattle.octets.specs.Strings.{zeros, filled}

-- after a write to `s[a..]`
pub put_mid-tail : {X : Type 0} (a : ℕ) (xs ys : List X) → put_mid a (length xs - a) xs ys ≡ take a xs ++ ys
put_mid-tail a xs ys =
    let e = drop_all (length xs - a) (drop a xs) (simp length-drop (omega arith)) in
    rw e (ap (λ (t : List _). take a xs ++ t) (append-nil ys))

pub length-filled : (n : ℕ) (xs : List ℕ) → length (filled n xs) ≡ n
unfolding filled
length-filled n xs =
    let a = length-append (take n xs) (zeros (n - length xs)) in
    let t = length-take n xs in
    let z : length (zeros (n - length xs)) ≡ n - length xs = length-replicate (n - length xs) 0 in
    omega arith

-- taking more than there is
take_same : (xs : List ℕ) (m n : ℕ) → min m (length xs) ≡ min n (length xs) → take m xs ≡ take n xs
take_same [] zero zero e = refl
take_same [] zero (suc n) e = refl
take_same [] (suc m) zero e = refl
take_same [] (suc m) (suc n) e = refl
take_same (x ∷ xs) zero zero e = refl
take_same (x ∷ xs) zero (suc n) e = absurd (omega arith)
take_same (x ∷ xs) (suc m) zero e = absurd (omega arith)
take_same (x ∷ xs) (suc m) (suc n) e = ap (λ (t : List ℕ). x ∷ t) (take_same xs m n (omega arith))

-- the front of a block of zero bytes after it was copied over
pub filled-front : (N : ℕ) (xs : List ℕ) (n : ℕ) (front : List ℕ) → n ≡ min (length xs) N → front ≡ take n xs → front ++ drop n (zeros N) ≡ filled N xs
unfolding filled
filled-front N xs n front e f =
    let a : take n xs ≡ take N xs = take_same xs n N (omega arith) in
    let b : drop n (zeros N) ≡ zeros (N - n) = drop-replicate n N 0 in
    let g : N - n ≡ N - length xs = omega arith in
    ap₂ (λ (x y : List ℕ). x ++ y) (f ∙ a) (b ∙ ap zeros g)

pub filled-take : (n : ℕ) (xs : List ℕ) → n ≤ length xs → filled n xs ≡ take n xs
unfolding filled
filled-take n xs h =
    let z : n - length xs ≡ 0 = omega arith in
    ap (λ (k : ℕ). take n xs ++ zeros k) z ∙ append-nil (take n xs)
