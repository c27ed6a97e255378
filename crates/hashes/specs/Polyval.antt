-- POLYVAL of RFC 8452 as a keyed hash of strings.
use Rattle.std.specs.Prelude.{ℕ, ◌-◌, ◌*◌, ◌/◌, ◌%◌, ◌^◌, List, ◌++◌, length}
use Rattle.octets.specs.Strings.{le, le_value, zeros}
use Rattle.hashes.specs.Chain.{chained}
use Rattle.hashes.specs.Polynomials.{dot}

-- A block stands for the polynomial in which the bit of weight 2 ^ i in byte k is the coefficient of x^(8k + i).
-- As a number that is `le_value` of the block, and `le 16` is its block again.
unfoldable pub dot_block : List ℕ → List ℕ → List ℕ
dot_block key block = le 16 (dot (le_value block) (le_value key))

-- the string with zero bytes to a multiple of 16
abbrev pub padded : List ℕ → List ℕ
padded s = s ++ zeros ((16 - length s % 16) % 16)

-- the block of a length: the number of bits modulo 2^64 in eight bytes, the least significant first, and eight zero bytes
abbrev pub length_block : ℕ → List ℕ
length_block n = le 8 (8 * n % 2 ^ 64) ++ zeros 8

-- From S = 0, each block X gives S = dot(S ⊕ X, key); the last S is the value.
unfoldable pub polyval : List ℕ → List ℕ → List ℕ
polyval key s = let all = padded s ++ length_block (length s) in chained (dot_block key) (length all / 16) (zeros 16) all
