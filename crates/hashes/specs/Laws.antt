-- What the definitions of `remainder` and `dot` come to.
use Rattle.std.specs.Prelude.{◌≡◌, ℕ, ◌+◌, ◌*◌, ◌^◌, ◌<◌, bit_xor}
use Rattle.hashes.specs.Polynomials.{P, product, remainder, times, dot}

-- The remainder has degree below 128, and differs from v by a multiple of P.
pub record Divides (n v : ℕ) : Type 0 where
  pub quotient : ℕ
  pub low : remainder n v < 2 ^ 128
  pub whole : v ≡ bit_xor (remainder n v) (product n quotient P)

-- dot(a, b) is the one polynomial r of degree below 128 with r · x^128 = a · b modulo P.
pub record Dots (a b : ℕ) : Type 0 where
  pub low : dot a b < 2 ^ 128
  pub is : remainder 128 (dot a b * 2 ^ 128) ≡ times a b
  pub only : (r : ℕ) → r < 2 ^ 128 → remainder 128 (r * 2 ^ 128) ≡ times a b → r ≡ dot a b

pub record Laws : Type 0 where
  pub divides : (n v : ℕ) → v < 2 ^ (128 + n) → Divides n v
  pub dots : (a b : ℕ) → b < 2 ^ 128 → Dots a b
  -- sums are `bit_xor`
  pub distributes : (a b c : ℕ) → dot (bit_xor a b) c ≡ bit_xor (dot a c) (dot b c)
