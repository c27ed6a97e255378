-- What the field's operations make of bytes are bytes.
use Rattle.std.proofs.Common.{ℕ, zero, suc, ◌*◌, ◌/◌, ◌%◌, ◌<◌, ◌≤◌, mul-le-mul_right, arith}
use lib.Bits.{xor_lt}
use Rattle.aes_tables.specs.Field.{xtime, mul_bits, mul, inverse, of_bits, affine_bit, affine, sbox}

xtime-lt : (b : ℕ) → b < 256 → xtime b < 256
unfolding xtime
xtime-lt b h = xor_lt 8 (b * 2 % 256) (b / 128 * 0x1b) (omega arith) (omega arith)

-- none or the whole of b
times-bit-lt : (a b : ℕ) → b < 256 → a % 2 * b < 256
times-bit-lt a b h = let m : a % 2 ≤ 1 = omega arith in omega (arith, mul-le-mul_right b m)

mul_bits-lt : (n a b : ℕ) → b < 256 → mul_bits n a b < 256
mul_bits-lt zero a b h = omega arith
mul_bits-lt (suc n) a b h = xor_lt 8 (a % 2 * b) (mul_bits n (a / 2) (xtime b)) (times-bit-lt a b h) (mul_bits-lt n (a / 2) (xtime b) (xtime-lt b h))

pub mul-lt : (a b : ℕ) → b < 256 → mul a b < 256
unfolding mul
mul-lt a b h = mul_bits-lt 8 a b h

of_bits-lt : (f : ℕ → ℕ) → ((i : ℕ) → f i < 2) → of_bits f < 256
of_bits-lt f h = omega (arith, h 0, h 1, h 2, h 3, h 4, h 5, h 6, h 7)

-- the S-box gives bytes, of any number
pub sbox-lt : (b : ℕ) → sbox b < 256
unfolding sbox affine
sbox-lt b = of_bits-lt (λ i. affine_bit i (inverse b)) (λ i. omega arith)
