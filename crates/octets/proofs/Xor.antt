-- Adding strings bit by bit.
use Rattle.std.proofs.Common.{◌≡◌, ℕ, zero, suc, ◌+◌, ◌<◌, ◌≤◌, ◌⊎◌, List, [], ◌∷◌, ◌++◌, length, get_or, take, drop, set, sym, refl, ap, ◌∙◌, inl, inr, add-one, arith}
use lib.Bits.{bit_xor, xor_assoc, xor_self, xor_zero_r, xor_lt}
use Rattle.std.specs.List.{AllByRecursion as All}
use Rattle.std.proofs.lemmas.List.{take_all, drop_all, length-append, take-append-drop, append-nil}
use Rattle.octets.proofs.Bytes.{Below256, all-bytes, bytes-all, bytes-append, bytes_take, bytes_drop}
use Rattle.octets.specs.Strings.{Bytes, xor, xor_at}

pub length-xor : (xs ys : List ℕ) → length (xor xs ys) ≡ length xs
unfolding xor
length-xor [] ys = refl
length-xor (x ∷ xs) [] = refl
length-xor (x ∷ xs) (y ∷ ys) = ap suc (length-xor xs ys)

pub xor-nil : (xs : List ℕ) → xor xs [] ≡ xs
unfolding xor
xor-nil [] = refl
xor-nil (x ∷ xs) = refl

-- adding a string twice undoes it
pub xor-twice : (xs ys : List ℕ) → xor (xor xs ys) ys ≡ xs
unfolding xor
xor-twice [] ys = refl
xor-twice (x ∷ xs) [] = refl
xor-twice (x ∷ xs) (y ∷ ys) =
    let h : bit_xor (bit_xor x y) y ≡ x = xor_assoc x y y ∙ ap (bit_xor x) (xor_self y) ∙ xor_zero_r x in
    let t = xor-twice xs ys in
    cc

all-xor : (xs ys : List ℕ) → All Below256 xs → All Below256 ys → All Below256 (xor xs ys)
unfolding xor
all-xor [] ys p q = tt
all-xor (x ∷ xs) [] p q = p
all-xor (x ∷ xs) (y ∷ ys) p q = (xor_lt 8 x y p.0 q.0, all-xor xs ys p.1 q.1)

pub bytes-xor : (xs ys : List ℕ) → Bytes xs → Bytes ys → Bytes (xor xs ys)
bytes-xor xs ys p q = bytes-all (xor xs ys) (all-xor xs ys (all-bytes xs p) (all-bytes ys q))

-- one more position of a loop that adds in place
xor-suc : (xs ys : List ℕ) (i : ℕ) → i < length xs → i < length ys → set (xor xs (take i ys)) i (bit_xor (get_or (xor xs (take i ys)) i 0) (get_or ys i 0)) ≡ xor xs (take (suc i) ys)
unfolding xor
xor-suc [] ys i p q = absurd (omega arith)
xor-suc (x ∷ xs) [] i p q = absurd (omega arith)
xor-suc (x ∷ xs) (y ∷ ys) zero p q = ap (λ (t : List ℕ). bit_xor x y ∷ t) (sym (xor-nil xs))
xor-suc (x ∷ xs) (y ∷ ys) (suc i) p q = ap (λ (t : List ℕ). bit_xor x y ∷ t) (xor-suc xs ys i (omega arith) (omega arith))

pub xor-more : (xs ys : List ℕ) (i : ℕ) → i < length xs → i < length ys → set (xor xs (take i ys)) i (bit_xor (get_or (xor xs (take i ys)) i 0) (get_or ys i 0)) ≡ xor xs (take (i + 1) ys)
xor-more xs ys i p q = rw add-one (xor-suc xs ys i p q)

-- only as much of the second counts as the first is long
pub xor-take : (xs ys : List ℕ) (n : ℕ) → length xs ≤ n → xor xs (take n ys) ≡ xor xs ys
unfolding xor
xor-take [] ys n p = refl
xor-take (x ∷ xs) [] zero p = refl
xor-take (x ∷ xs) [] (suc n) p = refl
xor-take (x ∷ xs) (y ∷ ys) zero p = absurd (omega arith)
xor-take (x ∷ xs) (y ∷ ys) (suc n) p = ap (λ (t : List ℕ). bit_xor x y ∷ t) (xor-take xs ys n (omega arith))

-- the whole second counts once as much of it is taken as the shorter of the two has
pub xor-upto : (xs ys : List ℕ) (n : ℕ) → (length xs ≤ n) ⊎ (length ys ≤ n) → xor xs (take n ys) ≡ xor xs ys
xor-upto xs ys n (inl p) = xor-take xs ys n p
xor-upto xs ys n (inr q) = ap (xor xs) (take_all n ys q)

-- adding to two strings joined
pub xor-append : (xs xs' ys : List ℕ) → xor (xs ++ xs') ys ≡ xor xs ys ++ xor xs' (drop (length xs) ys)
unfolding xor
xor-append [] xs' ys = refl
xor-append (x ∷ xs) xs' [] = ap (λ (t : List ℕ). x ∷ (xs ++ t)) (sym (xor-nil xs'))
xor-append (x ∷ xs) xs' (y ∷ ys) = ap (λ (t : List ℕ). bit_xor x y ∷ t) (xor-append xs xs' ys)

-- a short string added to the start of a longer one
pub xor-front : (t x h : List ℕ) → length h ≤ length t → xor (t ++ x) h ≡ xor t h ++ x
xor-front t x h n =
    xor-append t x h ∙ ap (λ (y : List ℕ). xor t h ++ y) (ap (xor x) (drop_all (length t) h n) ∙ xor-nil x)

pub length-xor_at : (at : ℕ) (xs ys : List ℕ) → length (xor_at at xs ys) ≡ length xs
unfolding xor_at
length-xor_at at xs ys =
    let e = length-append (take at xs) (xor (drop at xs) ys) in
    let l = length-xor (drop at xs) ys in
    let t = length-append (take at xs) (drop at xs) in
    let w = ap length (take-append-drop at xs) in
    omega arith

pub bytes-xor_at : (at : ℕ) (xs ys : List ℕ) → Bytes xs → Bytes ys → Bytes (xor_at at xs ys)
unfolding xor_at
bytes-xor_at at xs ys p q = bytes-append (take at xs) (xor (drop at xs) ys) (bytes_take at xs p) (bytes-xor (drop at xs) ys (bytes_drop at xs p) q)

-- past the end nothing is added
pub xor_at-past : (at : ℕ) (xs ys : List ℕ) → length xs ≤ at → xor_at at xs ys ≡ xs
unfolding xor_at xor
xor_at-past at xs ys h = rw (take_all at xs h, drop_all at xs h) (append-nil xs)

pub xor_at-twice : (at : ℕ) (xs ys : List ℕ) → xor_at at (xor_at at xs ys) ys ≡ xs
unfolding xor_at xor
xor_at-twice zero xs ys = xor-twice xs ys
xor_at-twice (suc at) [] ys = refl
xor_at-twice (suc at) (x ∷ xs) ys = ap (λ (t : List ℕ). x ∷ t) (xor_at-twice at xs ys)
