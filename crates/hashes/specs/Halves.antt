-- What the bitwise product computes on its way; no definition of the hash rests on it.
use Rattle.std.specs.Prelude.{ℕ, zero, suc, ◌+◌, ◌*◌, ◌/◌, ◌%◌, ◌^◌, bit_xor}

-- P / x without the constant coefficient of P
abbrev pub H : ℕ
H = 2 ^ 127 + 2 ^ 126 + 2 ^ 125 + 2 ^ 120

-- v / x modulo P: P has the constant coefficient 1, so P is added where v has it
unfoldable pub half : ℕ → ℕ
half v = bit_xor (v / 2) (v % 2 * H)

-- v / x^n modulo P
unfoldable pub halves : ℕ → ℕ → ℕ
halves zero v = v
halves (suc n) v = halves n (half v)

-- what a turn for each of the n next coefficients of a makes of s
unfoldable pub turns : ℕ → ℕ → ℕ → ℕ → ℕ
turns zero a b s = s
turns (suc n) a b s = turns n (a / 2) b (half (bit_xor s (a % 2 * b)))
