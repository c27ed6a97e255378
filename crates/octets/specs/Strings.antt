-- Byte strings as lists of numbers.
use Rattle.std.specs.Prelude.{ℕ, zero, suc, ◌+◌, ◌-◌, ◌*◌, ◌/◌, ◌%◌, ◌<◌, Bool, true, false, cond, List, [], ◌∷◌, ◌++◌, reverse, length, take, drop, replicate, ◌==◌, bit_xor, slice_index}

-- each element is a byte
abbrev pub Bytes : List ℕ → Type 0
Bytes xs = (k : ℕ) → slice_index xs k < 256

-- The first string with the second added to it bit by bit, from its start. It has the length of the first:
-- where the second is shorter the rest stays, and where it is longer its rest is not used.
unfoldable pub xor : List ℕ → List ℕ → List ℕ
xor [] ys = []
xor (x ∷ xs) [] = x ∷ xs
xor (x ∷ xs) (y ∷ ys) = bit_xor x y ∷ xor xs ys

-- The same from the position `at` on; where that is past the end, nothing is added.
unfoldable pub xor_at : ℕ → List ℕ → List ℕ → List ℕ
xor_at at xs ys = take at xs ++ xor (drop at xs) ys

-- n modulo 256^k as k bytes, the least significant first, and the most significant first
unfoldable pub le : ℕ → ℕ → List ℕ
le zero n = []
le (suc k) n = n % 256 ∷ le k (n / 256)

unfoldable pub be : ℕ → ℕ → List ℕ
be k n = reverse (le k n)

-- the number that bytes stand for, the least significant first, and the most significant first
unfoldable pub le_value : List ℕ → ℕ
le_value [] = 0
le_value (x ∷ xs) = x + 256 * le_value xs

unfoldable pub be_value : List ℕ → ℕ
be_value xs = le_value (reverse xs)

-- n zero bytes
abbrev pub zeros : ℕ → List ℕ
zeros n = replicate n 0

-- the first n bytes, with zero bytes after them where there are fewer
unfoldable pub filled : ℕ → List ℕ → List ℕ
filled n xs = take n xs ++ zeros (n - length xs)

-- whether two strings are the same
unfoldable pub same : List ℕ → List ℕ → Bool
same [] [] = true
same [] (y ∷ ys) = false
same (x ∷ xs) [] = false
same (x ∷ xs) (y ∷ ys) = cond (x == y) (same xs ys) false
