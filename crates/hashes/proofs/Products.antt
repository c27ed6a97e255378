-- Products modulo P bit by bit: x and 1/x times a polynomial, and `dot` by halves.
use Rattle.std.proofs.Common.{◌≡◌, ℕ, zero, suc, ◌+◌, ◌-◌, ◌*◌, ◌/◌, ◌%◌, ◌^◌, ◌<◌, ◌≤◌, true, eqb, sym, refl, ap, ◌∙◌, subst, ap₂, add-suc, mod-lt, mod-eq_of_lt, mul_assoc, mul_comm, one-mul, pow-suc, zero-add, zero-mul, mul-one, mul-div_cancel, arith, pow_pos, pow_mono, shr_lt}
use native.Mathlib.Nat.{mul-mod_left, div-div-eq-div-mul, div-eq_of_lt}
use lib.Pow.{split}
use lib.Bits.{bit_xor, xor_assoc, xor_self, xor_zero_r, xor_shr, xor_mod, xor_block, xor_lt}
use Rattle.hashes.specs.Polynomials.{P, product, remainder, times, inverse, dot}
use Rattle.hashes.specs.Halves.{H, half, halves, turns}
use Rattle.hashes.proofs.Sums.{two_pos, four, cancel, shl, bit-times, low-times, Linear, below, agree-by}

-- x times v, for v of degree below 128
unfoldable pub twice : ℕ → ℕ
twice v = bit_xor (v * 2) (v / 2 ^ 127 % 2 * P)

-- ---- all of these keep sums

pub half-linear : Linear half
unfolding half
half-linear u v =
    ap₂ bit_xor (xor_shr u v 1) (low-times u v H) ∙ four (u / 2) (v / 2) (u % 2 * H) (v % 2 * H)

pub halves-linear : (n : ℕ) → Linear (halves n)
unfolding halves
halves-linear zero u v = refl
halves-linear (suc n) u v = ap (halves n) (half-linear u v) ∙ halves-linear n (half u) (half v)

pub remainder-linear : (n : ℕ) → Linear (remainder n)
unfolding remainder
remainder-linear zero u v = refl
remainder-linear (suc n) u v =
    ap (remainder n)
    (ap (bit_xor (bit_xor u v)) (bit-times u v (128 + n) (P * 2 ^ n))
    ∙ four u v (u / 2 ^ (128 + n) % 2 * (P * 2 ^ n)) (v / 2 ^ (128 + n) % 2 * (P * 2 ^ n)))
    ∙ remainder-linear n (bit_xor u (u / 2 ^ (128 + n) % 2 * (P * 2 ^ n))) (bit_xor v (v / 2 ^ (128 + n) % 2 * (P * 2 ^ n)))

pub product-linear : (n b : ℕ) → Linear (λ a. product n a b)
unfolding product
product-linear zero b u v = refl
product-linear (suc n) b u v =
    ap₂ bit_xor (low-times u v b)
    (ap (λ (x : ℕ). product n x b * 2) (xor_shr u v 1) ∙ ap (λ (x : ℕ). x * 2) (product-linear n b (u / 2) (v / 2))
    ∙ shl (product n (u / 2) b) (product n (v / 2) b) 1)
    ∙ four (u % 2 * b) (v % 2 * b) (product n (u / 2) b * 2) (product n (v / 2) b * 2)

pub times-linear : (b : ℕ) → Linear (λ a. times a b)
unfolding times
times-linear b u v = ap (remainder 128) (product-linear 128 b u v) ∙ remainder-linear 128 (product 128 u b) (product 128 v b)

-- ---- a half undoes a doubling

digit-half : (c : ℕ) → c < 2 → (c * P) / 2 ≡ c * H
digit-half zero h = refl
digit-half (suc zero) h = refl
digit-half (suc (suc c)) h = absurd (omega arith)

digit_low : (c : ℕ) → c < 2 → (c * P) % 2 ≡ c
digit_low zero h = refl
digit_low (suc zero) h = refl
digit_low (suc (suc c)) h = absurd (omega arith)

pub half_twice : (v : ℕ) → half (twice v) ≡ v
unfolding half twice
half_twice v =
    let c : ℕ = v / 2 ^ 127 % 2 in
    let small : c < 2 = mod-lt (v / 2 ^ 127) two_pos in
    ap₂ (λ (x y : ℕ). bit_xor x (y * H))
    (xor_shr (v * 2) (c * P) 1 ∙ ap₂ bit_xor (mul-div_cancel v two_pos) (digit-half c small))
    (xor_mod (v * 2) (c * P) 1 ∙ ap₂ bit_xor (mul-mod_left v 2) (digit_low c small))
    ∙ cancel v (c * H)

-- ---- the product by doublings

unfoldable pub horner : ℕ → ℕ → ℕ → ℕ
horner zero a b = 0
horner (suc n) a b = bit_xor (a % 2 * b) (twice (horner n (a / 2) b))

-- the remainder of a polynomial of degree below 128
pub remainder-small : (n v : ℕ) → v < 2 ^ 128 → remainder n v ≡ v
unfolding remainder
remainder-small zero v h = refl
remainder-small (suc n) v h =
    let none : v / 2 ^ (128 + n) ≡ 0 = div-eq_of_lt (omega (arith, pow_mono {i = 128} {j = 128 + n} (omega arith))) in
    ap (λ (x : ℕ). remainder n (bit_xor v (x % 2 * (P * 2 ^ n)))) none
    ∙ ap (λ (x : ℕ). remainder n (bit_xor v x)) (zero-mul (P * 2 ^ n))
    ∙ ap (remainder n) (xor_zero_r v) ∙ remainder-small n v h

-- and of x times one
up : (v k : ℕ) → v * 2 / 2 ^ suc k ≡ v / 2 ^ k
up v k =
    ap (λ (x : ℕ). v * 2 / x) (pow-suc 2 k ∙ mul_comm (2 ^ k) 2) ∙ sym (div-div-eq-div-mul (v * 2) 2 (2 ^ k))
    ∙ ap (λ (x : ℕ). x / 2 ^ k) (mul-div_cancel v two_pos)

pub remainder-twice : (n v : ℕ) → remainder (suc n) (v * 2) ≡ twice (remainder n v)
unfolding remainder twice
remainder-twice zero v =
    ap₂ (λ (x y : ℕ). bit_xor (v * 2) (x % 2 * y)) (up v 127) (mul-one P)
remainder-twice (suc n) v =
    ap (remainder (suc n))
    (ap (λ (k : ℕ). bit_xor (v * 2) (v * 2 / 2 ^ k % 2 * (P * 2 ^ suc n))) (add-suc 128 n)
    ∙ ap₂ (λ (x y : ℕ). bit_xor (v * 2) (x % 2 * y)) (up v (128 + n)) (ap (λ (x : ℕ). P * x) (pow-suc 2 n) ∙ sym (mul_assoc P (2 ^ n) 2))
    ∙ ap (bit_xor (v * 2)) (sym (mul_assoc (v / 2 ^ (128 + n) % 2) (P * 2 ^ n) 2))
    ∙ sym (shl v (v / 2 ^ (128 + n) % 2 * (P * 2 ^ n)) 1))
    ∙ remainder-twice n (bit_xor v (v / 2 ^ (128 + n) % 2 * (P * 2 ^ n)))

pub bit_below : (c b m : ℕ) → c < 2 → b < m → c * b < m
bit_below zero b m h l = rw zero-mul (omega arith)
bit_below (suc zero) b m h l = rw one-mul l
bit_below (suc (suc c)) b m h l = absurd (omega arith)

pub remainder-product : (n a b : ℕ) → b < 2 ^ 128 → remainder n (product n a b) ≡ horner n a b
unfolding product horner
remainder-product zero a b h = remainder-small 0 0 (pow_pos 128)
remainder-product (suc n) a b h =
    remainder-linear (suc n) (a % 2 * b) (product n (a / 2) b * 2)
    ∙ ap₂ bit_xor (remainder-small (suc n) (a % 2 * b) (bit_below (a % 2) b (2 ^ 128) (mod-lt a two_pos) h))
    (remainder-twice n (product n (a / 2) b) ∙ ap twice (remainder-product n (a / 2) b h))

-- ---- bounds

-- P without x^128
abbrev pub Q : ℕ
Q = 2 ^ 127 + 2 ^ 126 + 2 ^ 121 + 1

twice-below : (v : ℕ) → v < 2 ^ 128 → twice v < 2 ^ 128
unfolding twice
twice-below v h =
    let c : ℕ = v / 2 ^ 127 in
    let r : ℕ = v % 2 ^ 127 in
    let top : c < 2 = shr_lt 1 127 h in
    let low : r < 2 ^ 127 = mod-lt v (pow_pos 127) in
    let cut : c * 2 ^ 127 + r ≡ v = split v 127 in
    let e : twice v ≡ bit_xor (r * 2) (c * Q) =
    ap₂ bit_xor {x = v * 2} {y = c * 2 ^ 128 + r * 2} (omega arith) (ap (λ (k : ℕ). k * P) (mod-eq_of_lt top) ∙ bits c)
    ∙ xor_block 128 c c (r * 2) (c * Q) (omega arith) (omega arith)
    ∙ ap (λ (k : ℕ). k * 2 ^ 128 + bit_xor (r * 2) (c * Q)) (xor_self c) ∙ zero-add (bit_xor (r * 2) (c * Q)) in
    subst (λ (k : ℕ). k < 2 ^ 128) (sym e) (xor_lt 128 (r * 2) (c * Q) (omega arith) (omega arith))
  where
    bits : (c : ℕ) → c * P ≡ c * 2 ^ 128 + c * Q
    bits c = omega arith

pub horner-below : (n a b : ℕ) → b < 2 ^ 128 → horner n a b < 2 ^ 128
unfolding horner
horner-below zero a b h = pow_pos 128
horner-below (suc n) a b h =
    xor_lt 128 (a % 2 * b) (twice (horner n (a / 2) b)) (bit_below (a % 2) b (2 ^ 128) (mod-lt a two_pos) h)
    (twice-below (horner n (a / 2) b) (horner-below n (a / 2) b h))

-- ---- the product, and dot, by halves

pub times-is : (a b : ℕ) → b < 2 ^ 128 → times a b ≡ horner 128 a b
unfolding times
times-is a b h = remainder-product 128 a b h

-- a turn of the loop, and its end
pub turns_more : (n i a b s : ℕ) → i < n → turns (n - i) a b s ≡ turns (n - (i + 1)) (a / 2) b (half (bit_xor s (a % 2 * b)))
unfolding turns
turns_more n i a b s h = ap (λ (k : ℕ). turns k a b s) {x = n - i} {y = suc (n - (i + 1))} (omega arith)

pub turns-none : (n i a b s : ℕ) → n ≤ i → turns (n - i) a b s ≡ s
unfolding turns
turns-none n i a b s h = ap (λ (k : ℕ). turns k a b s) {x = n - i} {y = zero} (omega arith)

pub turns-are : (n a b s : ℕ) → turns n a b s ≡ halves n (bit_xor s (horner n a b))
unfolding turns halves horner
turns-are zero a b s = sym (xor_zero_r s)
turns-are (suc n) a b s =
    let m : ℕ = horner n (a / 2) b in
    turns-are n (a / 2) b (half (bit_xor s (a % 2 * b)))
    ∙ ap (halves n)
    (ap (bit_xor (half (bit_xor s (a % 2 * b)))) (sym (half_twice m))
    ∙ sym (half-linear (bit_xor s (a % 2 * b)) (twice m))
    ∙ ap half (xor_assoc s (a % 2 * b) (twice m)))

-- 128 halves are a product with x^-128: at each power of x, by computing
at-powers : below (λ i. eqb (halves 128 (2 ^ i)) (times (2 ^ i) inverse)) 128 ≡ true
unfolding halves half times remainder product
at-powers = refl

pub halves_are : (v : ℕ) → v < 2 ^ 128 → halves 128 v ≡ times v inverse
halves_are = agree-by (halves 128) (λ v. times v inverse) (halves-linear 128) (times-linear inverse) 128 at-powers

pub dot_is : (a b : ℕ) → b < 2 ^ 128 → turns 128 a b 0 ≡ dot a b
unfolding dot
dot_is a b h =
    turns-are 128 a b 0
    ∙ halves_are (horner 128 a b) (horner-below 128 a b h)
    ∙ ap (λ (k : ℕ). times k inverse) (sym (times-is a b h))

pub dot-linear : (b : ℕ) → Linear (λ a. dot a b)
unfolding dot
dot-linear b u v = ap (λ (k : ℕ). times k inverse) (times-linear b u v) ∙ times-linear inverse (times u b) (times v b)
