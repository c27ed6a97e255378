-- Words of 32 bits, and byte strings as words.
use Rattle.std.specs.Prelude.{ℕ, ◌+◌, ◌-◌, ◌*◌, ◌/◌, ◌%◌, ◌^◌, List, [], ◌∷◌, map, bit_or, slice_index}
use Rattle.octets.specs.Strings.{le, le_value}
use Rattle.std.specs.List.{range_with_len, flat_map}

-- the sum modulo 2^32
abbrev pub plus : ℕ → ℕ → ℕ
plus a b = (a + b) % 2 ^ 32

-- the left rotation by n bits, n from 1 to 31
abbrev pub rotl : ℕ → ℕ → ℕ
rotl w n = bit_or (w * 2 ^ n % 2 ^ 32) (w / 2 ^ (32 - n))

-- word i of a byte string, the least significant byte first
unfoldable pub word : List ℕ → ℕ → ℕ
word s i = le_value (slice_index s (4 * i) ∷ slice_index s (4 * i + 1) ∷ slice_index s (4 * i + 2) ∷ slice_index s (4 * i + 3) ∷ [])

-- its first n words
abbrev pub words : ℕ → List ℕ → List ℕ
words n s = map (word s) (range_with_len 0 n)

-- the bytes of words, the least significant byte of each first
unfoldable pub serialized : List ℕ → List ℕ
serialized ws = flat_map (le 4) ws

-- two lists of words added word by word
unfoldable pub sums : List ℕ → List ℕ → List ℕ
sums [] ys = []
sums (x ∷ xs) [] = x ∷ xs
sums (x ∷ xs) (y ∷ ys) = plus x y ∷ sums xs ys
