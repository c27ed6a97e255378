-- Known values of POLYVAL and its polynomials.
use Rattle.std.specs.Prelude.{◌≡◌, ℕ, ◌*◌, ◌^◌, List, [], ◌∷◌, ◌++◌, replicate}
use Rattle.octets.specs.Strings.{be, le_value, zeros}
use Rattle.hashes.specs.Chain.{chained}
use Rattle.hashes.specs.Polynomials.{remainder, times, inverse, dot}
use Rattle.hashes.specs.Polyval.{dot_block, polyval}

-- 01, fourteen 00, c2: x^128 modulo P
abbrev pub E : List ℕ
E = 1 ∷ (zeros 14 ++ 0xc2 ∷ [])

-- RFC 8452, section 7: two polynomials
abbrev pub a : ℕ
a = le_value (be 16 0x66e94bd4ef8a2c3b884cfa59ca342b2e)

abbrev pub b : ℕ
b = le_value (be 16 0xff000000000000000000000000000000)

pub record Known : Type 0 where
  -- x^-128 times x^128 is 1
  pub inverse_is : remainder 128 (inverse * 2 ^ 128) ≡ 1
  pub x128_is : remainder 1 (2 ^ 128) ≡ le_value E
  pub empty : polyval E [] ≡ zeros 16
  pub one : polyval E (1 ∷ []) ≡ 9 ∷ zeros 15
  pub sixteen : polyval E (replicate 16 1) ≡ 0x81 ∷ replicate 15 1
  -- RFC 8452, section 7 and appendix A
  pub product_is : times a b ≡ le_value (be 16 0x37856175e9dc9df26ebc6d6171aa0ae9)
  pub dot_is : dot a b ≡ le_value (be 16 0xebe563401e7e91ea3ad6426b8140c394)
  pub two_blocks :
      chained (dot_block (be 16 0x25629347589242761d31f826ba4b757b)) 2 (zeros 16) (be 32 0x4f4f95668c83dfb6401762bb2d01a262d1a24ddd2721d006bbe45f20d3c9f362)
      ≡ be 16 0xf7a3b47b846119fae5b7866cf5e5b77e
