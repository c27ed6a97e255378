-- Words of four bytes: their bytes, and what a rotation makes of them.
use Rattle.std.proofs.Common.{◌≡◌, ℕ, zero, suc, ◌+◌, ◌-◌, ◌*◌, ◌/◌, ◌%◌, ◌^◌, ◌<◌, ap, ◌∙◌, ap₂, div-one, arith}
use lib.Bits.{bit_xor, bit_or, or_comm, or_self, or_shifted_r, xor_shr, xor_mod}
use Rattle.std.proofs.lemmas.Nat.{shr-shr}
use Rattle.aes_tables.specs.Field.{sbox, mul}
use Rattle.aes_tables.specs.Tables.{word, t0}
use Rattle.aes_tables.proofs.Bounds.{mul-lt, sbox-lt}
use Rattle.aes.specs.Cipher.{byte, rot_word}
use Rattle.aes.specs.Columns.{HasBytes, t}

pub byte-lt : (r w : ℕ) → byte r w < 256
byte-lt r w = omega arith

pub byte-xor : (r x y : ℕ) → byte r (bit_xor x y) ≡ bit_xor (byte r x) (byte r y)
byte-xor r x y = ap (λ (n : ℕ). n % 256) (xor_shr x y (24 - 8 * r)) ∙ xor_mod (x / 2 ^ (24 - 8 * r)) (y / 2 ^ (24 - 8 * r)) 8

-- two numbers with no bit in common, the second k places up
or-sum : {v : ℕ} (x y k lo hi : ℕ) → x ≡ lo → y ≡ hi * 2 ^ k → lo < 2 ^ k → hi * 2 ^ k + lo ≡ v → bit_or x y ≡ v
or-sum x y k lo hi p q h e = ap₂ bit_or p q ∙ or_shifted_r hi k lo h ∙ e

module _ (a b c d : ℕ) (ha : a < 256) (hb : b < 256) (hc : c < 256) (hd : d < 256) where
  pub word_bytes : HasBytes (word a b c d) a b c d
  word_bytes = record { b0 = omega arith; b1 = omega arith; b2 = omega arith; b3 = omega arith }

  right0 : bit_or (word a b c d / 1) (word a b c d * 1 % 2 ^ 32) ≡ word a b c d
  right0 = ap₂ bit_or (div-one (word a b c d)) (omega arith) ∙ or_self (word a b c d)

  right8 : bit_or (word a b c d / 2 ^ 8) (word a b c d * 2 ^ 24 % 2 ^ 32) ≡ word d a b c
  right8 = or-sum (word a b c d / 2 ^ 8) (word a b c d * 2 ^ 24 % 2 ^ 32) 24 (a * 2 ^ 16 + b * 2 ^ 8 + c) d (omega arith) (omega arith) (omega arith) (omega arith)

  right16 : bit_or (word a b c d / 2 ^ 16) (word a b c d * 2 ^ 16 % 2 ^ 32) ≡ word c d a b
  right16 = or-sum (word a b c d / 2 ^ 16) (word a b c d * 2 ^ 16 % 2 ^ 32) 16 (a * 2 ^ 8 + b) (c * 2 ^ 8 + d) (omega arith) (omega arith) (omega arith) (omega arith)

  right24 : bit_or (word a b c d / 2 ^ 24) (word a b c d * 2 ^ 8 % 2 ^ 32) ≡ word b c d a
  right24 = or-sum (word a b c d / 2 ^ 24) (word a b c d * 2 ^ 8 % 2 ^ 32) 8 a (b * 2 ^ 16 + c * 2 ^ 8 + d) (omega arith) (omega arith) (omega arith) (omega arith)

-- a word is its bytes
split : (w : ℕ) → w < 2 ^ 32 → w ≡ word (byte 0 w) (byte 1 w) (byte 2 w) (byte 3 w)
split w h =
    let t : w / 2 ^ 24 % 256 ≡ w / 2 ^ 24 = omega arith in
    omega (arith, t, shr-shr w 8 8, shr-shr w 16 8, ap (λ (x : ℕ). x % 256) (div-one w))

pub rot-word : (w : ℕ) → w < 2 ^ 32 → bit_or (w * 2 ^ 8 % 2 ^ 32) (w / 2 ^ 24) ≡ rot_word w
unfolding rot_word
rot-word w h =
    or_comm (w * 2 ^ 8 % 2 ^ 32) (w / 2 ^ 24) ∙ ap (λ (x : ℕ). bit_or (x / 2 ^ 24) (x * 2 ^ 8 % 2 ^ 32)) (split w h)
    ∙ right24 (byte 0 w) (byte 1 w) (byte 2 w) (byte 3 w) (byte-lt 0 w) (byte-lt 1 w) (byte-lt 2 w) (byte-lt 3 w)

-- what `rotate_right` makes of a word
abbrev pub turned : ℕ → ℕ → ℕ
turned by w = bit_or (w / 2 ^ (by % 32)) (w * 2 ^ ((32 - by % 32) % 32) % 2 ^ 32)

pub t-turned : (r b : ℕ) → r < 4 → turned (8 * r) (t0 b) ≡ t r b
unfolding t t0
t-turned r b h =
    let s = sbox b in
    let two = mul-lt 2 s (sbox-lt b) in
    let three = mul-lt 3 s (sbox-lt b) in
    let one = sbox-lt b in
    elim r as (λ n. n < 4 → turned (8 * n) (t0 b) ≡ t n b) [
      | zero ↦ λ h. right0 (mul 2 s) s s (mul 3 s) two one one three
      | suc zero ↦ λ h. right8 (mul 2 s) s s (mul 3 s) two one one three
      | suc (suc zero) ↦ λ h. right16 (mul 2 s) s s (mul 3 s) two one one three
      | suc (suc (suc zero)) ↦ λ h. right24 (mul 2 s) s s (mul 3 s) two one one three
      | suc (suc (suc (suc n))) ↦ λ h. absurd (omega arith)
    ] h
