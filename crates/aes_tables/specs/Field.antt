-- The field GF(2^8) of FIPS 197, section 4, and its S-box, section 5.1.1. An element is a number below 256, bit i of which is
-- the coefficient of x^i.
use Rattle.std.specs.Prelude.{◌≡◌, ℕ, zero, suc, ◌+◌, ◌*◌, ◌/◌, ◌%◌, ◌^◌, ◌<◌, bit_xor}

-- x times b, modulo x^8 + x^4 + x^3 + x + 1
unfoldable pub xtime : ℕ → ℕ
xtime b = bit_xor (b * 2 % 256) (b / 128 * 0x1b)

-- a times b, by the lowest n bits of a
abbrev pub mul_bits : ℕ → ℕ → ℕ → ℕ
mul_bits zero a b = 0
mul_bits (suc n) a b = bit_xor (a % 2 * b) (mul_bits n (a / 2) (xtime b))

-- a times b
unfoldable pub mul : ℕ → ℕ → ℕ
mul a b = mul_bits 8 a b

abbrev pub square : ℕ → ℕ
square b = mul b b

-- b to the power of 2^n - 1
abbrev pub all_ones : ℕ → ℕ → ℕ
all_ones zero b = 1
all_ones (suc n) b = mul b (square (all_ones n b))

-- the inverse of b, and 0 for 0: b^254
unfoldable pub inverse : ℕ → ℕ
inverse b = square (all_ones 7 b)

-- what makes `i` the inverse of b in the sense of the S-box
pub record Inverse (b i : ℕ) : Type 0 where
  pub product : 0 < b → mul b i ≡ 1
  pub of_zero : b ≡ 0 → i ≡ 0

abbrev pub bit : ℕ → ℕ → ℕ
bit i b = b / 2 ^ i % 2

-- the number of which bit i is f i
abbrev pub of_bits : (ℕ → ℕ) → ℕ
of_bits f = f 0 + f 1 * 2 + f 2 * 4 + f 3 * 8 + f 4 * 16 + f 5 * 32 + f 6 * 64 + f 7 * 128

-- the affine step over GF(2), with the constant 63
abbrev pub affine_bit : ℕ → ℕ → ℕ
affine_bit i b = (bit i b + bit ((i + 4) % 8) b + bit ((i + 5) % 8) b + bit ((i + 6) % 8) b + bit ((i + 7) % 8) b + bit i 0x63) % 2

unfoldable pub affine : ℕ → ℕ
affine b = of_bits (λ i. affine_bit i b)

unfoldable pub sbox : ℕ → ℕ
sbox b = affine (inverse b)
