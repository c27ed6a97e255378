-- Numbers and their bytes.
use Rattle.std.proofs.Common.{◌≡◌, ℕ, zero, suc, ◌+◌, ◌*◌, ◌/◌, ◌%◌, ◌^◌, ◌<◌, List, [], ◌∷◌, reverse, length, get_or, sym, refl, ap, ◌∙◌, pow-suc, arith}
use Rattle.std.proofs.lemmas.List.{drop_more, drop_all, reverse-reverse, length-reverse}
use Rattle.octets.proofs.Bytes.{bytes-cons, bytes-tail, bytes-head, bytes-reverse}
use Rattle.octets.specs.Strings.{Bytes, le, be, le_value, be_value}

pub length-le : (k n : ℕ) → length (le k n) ≡ k
unfolding le
length-le zero n = refl
length-le (suc k) n = ap suc (length-le k (n / 256))

pub length-be : (k n : ℕ) → length (be k n) ≡ k
unfolding be
length-be k n = length-reverse (le k n) ∙ length-le k n

pub bytes_le : (k n : ℕ) → Bytes (le k n)
unfolding le
bytes_le zero n = λ i. omega arith
bytes_le (suc k) n = bytes-cons (n % 256) (le k (n / 256)) (omega arith) (bytes_le k (n / 256))

pub bytes-be : (k n : ℕ) → Bytes (be k n)
unfolding be
bytes-be k n = bytes-reverse (le k n) (bytes_le k n)

pub le_value_le : (k n : ℕ) → n < 256 ^ k → le_value (le k n) ≡ n
unfolding le le_value
le_value_le zero n h = omega arith
le_value_le (suc k) n h =
    let p = pow-suc 256 k in
    let e : le_value (le k (n / 256)) ≡ n / 256 = le_value_le k (n / 256) (omega arith) in
    omega arith

pub be_value_be : (k n : ℕ) → n < 256 ^ k → be_value (be k n) ≡ n
unfolding be be_value
be_value_be k n h = ap le_value (reverse-reverse (le k n)) ∙ le_value_le k n h

pub le_le_value : (xs : List ℕ) → Bytes xs → le (length xs) (le_value xs) ≡ xs
unfolding le le_value
le_le_value [] b = refl
le_le_value (x ∷ xs) b =
    let s : x < 256 = bytes-head x xs b in
    let v = le_value xs in
    let low : (x + 256 * v) % 256 ≡ x = omega arith in
    let high : (x + 256 * v) / 256 ≡ v = omega arith in
    let t = le_le_value xs (bytes-tail x xs b) in
    cc

pub be_be_value : (xs : List ℕ) → Bytes xs → be (length xs) (be_value xs) ≡ xs
unfolding be be_value
be_be_value xs b =
    let t = le_le_value (reverse xs) (bytes-reverse xs b) in
    let n = length-reverse xs in
    let w = reverse-reverse xs in
    cc

pub le_once : (m n : ℕ) → m < 2 ^ 64 → n < 2 ^ 64 → le 8 m ≡ le 8 n → m ≡ n
le_once m n p q e = sym (le_value_le 8 m p) ∙ ap le_value e ∙ le_value_le 8 n q

pub be_once : (m n : ℕ) → m < 2 ^ 64 → n < 2 ^ 64 → be 8 m ≡ be 8 n → m ≡ n
be_once m n p q e = sym (be_value_be 8 m p) ∙ ap be_value e ∙ be_value_be 8 n q

-- the eight bytes one by one, as the library's own conversions state them
pub le-eight : (n : ℕ) → le 8 n ≡ n % 256 ∷ n / 256 % 256 ∷ n / 65536 % 256 ∷ n / 16777216 % 256 ∷ n / 4294967296 % 256 ∷ n / 1099511627776 % 256 ∷ n / 281474976710656 % 256 ∷ n / 72057594037927936 % 256 ∷ []
unfolding le
le-eight n =
    let d1 = n / 256 in
    let e2 : d1 / 256 ≡ n / 65536 = omega arith in
    let e3 : d1 / 256 / 256 ≡ n / 16777216 = omega arith in
    let e4 : d1 / 256 / 256 / 256 ≡ n / 4294967296 = omega arith in
    let e5 : d1 / 256 / 256 / 256 / 256 ≡ n / 1099511627776 = omega arith in
    let e6 : d1 / 256 / 256 / 256 / 256 / 256 ≡ n / 281474976710656 = omega arith in
    let e7 : d1 / 256 / 256 / 256 / 256 / 256 / 256 ≡ n / 72057594037927936 = omega arith in
    cc

-- a string of eight bytes is its bytes one by one
eight : (xs : List ℕ) → length xs ≡ 8 → xs ≡ get_or xs 0 0 ∷ get_or xs 1 0 ∷ get_or xs 2 0 ∷ get_or xs 3 0 ∷ get_or xs 4 0 ∷ get_or xs 5 0 ∷ get_or xs 6 0 ∷ get_or xs 7 0 ∷ []
eight xs n =
    let e0 = drop_more xs 0 0 (omega arith) in
    let e1 = drop_more xs 1 0 (omega arith) in
    let e2 = drop_more xs 2 0 (omega arith) in
    let e3 = drop_more xs 3 0 (omega arith) in
    let e4 = drop_more xs 4 0 (omega arith) in
    let e5 = drop_more xs 5 0 (omega arith) in
    let e6 = drop_more xs 6 0 (omega arith) in
    let e7 = drop_more xs 7 0 (omega arith) in
    let e8 = drop_all 8 xs (omega arith) in
    cc

pub be-eight : (xs : List ℕ) → length xs ≡ 8 → be_value xs ≡ get_or xs 0 0 * 72057594037927936 + get_or xs 1 0 * 281474976710656 + get_or xs 2 0 * 1099511627776 + get_or xs 3 0 * 4294967296 + get_or xs 4 0 * 16777216 + get_or xs 5 0 * 65536 + get_or xs 6 0 * 256 + get_or xs 7 0
unfolding be_value le_value
be-eight xs n = ap be_value (eight xs n) ∙ omega arith
