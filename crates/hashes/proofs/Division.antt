-- Division by P and by x^128: what `remainder` and `dot` come to.
use Rattle.std.proofs.Common.{◌≡◌, ℕ, zero, suc, ◌+◌, ◌*◌, ◌/◌, ◌%◌, ◌^◌, ◌<◌, true, eqb, sym, refl, ap, ◌∙◌, subst, ap₂, mod-lt, mod-eq_of_lt, mul_assoc, mul_comm, pow-suc, zero-add, zero-mul, mul-one, mul-add, add-one, arith, lit<, pow_pos, pow-add, shr_lt}
use lib.Arith.{lt-one, digits_lt}
use lib.Pow.{split}
use lib.Bits.{bit_xor, xor_assoc, xor_comm, xor_self, xor_zero_r, xor_block, xor_lt, xor_shifted, shifted_half, shifted_even}
use Rattle.hashes.specs.Polynomials.{P, product, remainder, times, inverse, dot}
use Rattle.hashes.specs.Laws.{Dots, Laws}
use Rattle.hashes.proofs.Sums.{two_pos, cancel, shl, Linear, below, agree-by}
use Rattle.hashes.proofs.Products.{remainder-linear, product-linear, times-linear, times-is, horner-below, bit_below, Q, dot-linear}

-- ---- dot

up : ℕ → ℕ
up v = remainder 128 (v * 2 ^ 128)

up-linear : Linear up
unfolding up
up-linear u v = ap (remainder 128) (shl u v 128) ∙ remainder-linear 128 (u * 2 ^ 128) (v * 2 ^ 128)

down : ℕ → ℕ
down v = times v inverse

down-linear : Linear down
unfolding down
down-linear = times-linear inverse

same : ℕ → ℕ
same v = v

same-linear : Linear same
unfolding same
same-linear u v = refl

up-down-linear : Linear (λ v. up (down v))
up-down-linear u v = ap up (down-linear u v) ∙ up-linear (down u) (down v)

down-up-linear : Linear (λ v. down (up v))
down-up-linear u v = ap down (up-linear u v) ∙ down-linear (up u) (up v)

up-down-powers : below (λ i. eqb (up (down (2 ^ i))) (same (2 ^ i))) 128 ≡ true
unfolding up down same times remainder product
up-down-powers = refl

down-up-powers : below (λ i. eqb (down (up (2 ^ i))) (same (2 ^ i))) 128 ≡ true
unfolding up down same times remainder product
down-up-powers = refl

up-down : (v : ℕ) → v < 2 ^ 128 → up (down v) ≡ v
unfolding same
up-down = agree-by (λ v. up (down v)) same up-down-linear same-linear 128 up-down-powers

down-up : (v : ℕ) → v < 2 ^ 128 → down (up v) ≡ v
unfolding same
down-up = agree-by (λ v. down (up v)) same down-up-linear same-linear 128 down-up-powers

times_below : (a b : ℕ) → b < 2 ^ 128 → times a b < 2 ^ 128
times_below a b h = subst (λ (k : ℕ). k < 2 ^ 128) (sym (times-is a b h)) (horner-below 128 a b h)

dots : (a b : ℕ) → b < 2 ^ 128 → Dots a b
unfolding up down dot
dots a b h = record {
  low = times_below (times a b) inverse (lit< tt);
  is = up-down (times a b) (times_below a b h);
  only = λ r l e. sym (down-up r l) ∙ ap down e;
}

-- ---- the remainder

-- one coefficient more, at the top
product-top : (n c b : ℕ) → c < 2 → product (suc n) (c * 2 ^ n) b ≡ c * b * 2 ^ n
unfolding product
product-top zero c b h =
    ap (λ (k : ℕ). bit_xor (k * b) 0) (ap (λ (k : ℕ). k % 2) (mul-one c) ∙ mod-eq_of_lt h)
    ∙ xor_zero_r (c * b) ∙ sym (mul-one (c * b))
product-top (suc n) c b h =
    ap₂ (λ (x y : ℕ). bit_xor (x * b) (product (suc n) y b * 2)) (shifted_even c n) (shifted_half c n)
    ∙ ap (λ (x : ℕ). bit_xor x (product (suc n) (c * 2 ^ n) b * 2)) (zero-mul b)
    ∙ ap (λ (x : ℕ). x * 2) (product-top n c b h)
    ∙ mul_assoc (c * b) (2 ^ n) 2 ∙ ap (λ (x : ℕ). c * b * x) (sym (pow-suc 2 n))

product-more : (n q b : ℕ) → q < 2 ^ n → product (suc n) q b ≡ product n q b
unfolding product
product-more zero q b h = ap (λ (k : ℕ). bit_xor (k % 2 * b) 0) (lt-one h) ∙ ap (λ (k : ℕ). bit_xor k 0) (zero-mul b)
product-more (suc n) q b h =
    ap (λ (x : ℕ). bit_xor (q % 2 * b) (x * 2)) (product-more n (q / 2) b (shr_lt n 1 (subst (λ (k : ℕ). q < 2 ^ k) (sym (add-one n)) h)))

-- what is taken away at x^(128 + n) takes that coefficient away
module _ (n v : ℕ) (h : v < 2 ^ (128 + suc n)) where
  abbrev c : ℕ
  c = v / 2 ^ (128 + n) % 2

  abbrev w : ℕ
  w = bit_xor v (c * (P * 2 ^ n))

  power : 2 ^ (128 + n) ≡ 2 ^ 128 * 2 ^ n
  power = pow-add 2 128 n

  taken : c * (P * 2 ^ n) ≡ c * 2 ^ (128 + n) + c * (Q * 2 ^ n)
  taken = ap (λ (x : ℕ). c * x) {x = P * 2 ^ n} {y = 2 ^ (128 + n) + Q * 2 ^ n} (omega (arith, power)) ∙ mul-add c (2 ^ (128 + n)) (Q * 2 ^ n)

  fewer : w < 2 ^ (128 + n)
  fewer =
      let m : ℕ = 128 + n in
      let r : ℕ = v % 2 ^ m in
      let one : c ≡ v / 2 ^ m = mod-eq_of_lt (shr_lt 1 m (subst (λ (k : ℕ). v < 2 ^ k) {x = 128 + suc n} {y = 1 + m} (omega arith) h)) in
      let cut : v ≡ c * 2 ^ m + r = sym (split v m) ∙ ap (λ (k : ℕ). k * 2 ^ m + r) (sym one) in
      let low : r < 2 ^ m = mod-lt v (pow_pos m) in
      let some : c * (Q * 2 ^ n) < 2 ^ m = bit_below c (Q * 2 ^ n) (2 ^ m) (mod-lt (v / 2 ^ m) two_pos) (omega (arith, power, pow_pos n)) in
      let e : w ≡ bit_xor r (c * (Q * 2 ^ n)) =
      ap₂ bit_xor cut taken ∙ xor_block m c c r (c * (Q * 2 ^ n)) low some
      ∙ ap (λ (k : ℕ). k * 2 ^ m + bit_xor r (c * (Q * 2 ^ n))) (xor_self c)
      ∙ ap (λ (k : ℕ). k + bit_xor r (c * (Q * 2 ^ n))) (zero-mul (2 ^ m)) ∙ zero-add (bit_xor r (c * (Q * 2 ^ n))) in
      subst (λ (k : ℕ). k < 2 ^ m) (sym e) (xor_lt m r (c * (Q * 2 ^ n)) low some)

  pub step : (q : ℕ) → q < 2 ^ n → w ≡ bit_xor (remainder n w) (product n q P) → v ≡ bit_xor (remainder n w) (product (suc n) (c * 2 ^ n + q) P)
  step q l e =
      let p : product (suc n) (c * 2 ^ n + q) P ≡ bit_xor (c * (P * 2 ^ n)) (product n q P) =
      ap (λ (x : ℕ). product (suc n) x P) (sym (xor_shifted c n q l))
      ∙ product-linear (suc n) P (c * 2 ^ n) q
      ∙ ap₂ bit_xor (product-top n c P (mod-lt (v / 2 ^ (128 + n)) two_pos) ∙ mul_assoc c P (2 ^ n)) (product-more n q P l) in
      sym (cancel v (c * (P * 2 ^ n)))
      ∙ ap (λ (x : ℕ). bit_xor x (c * (P * 2 ^ n))) e
      ∙ xor_assoc (remainder n w) (product n q P) (c * (P * 2 ^ n))
      ∙ ap (bit_xor (remainder n w)) (xor_comm (product n q P) (c * (P * 2 ^ n)) ∙ sym p)

abbrev Division : ℕ → ℕ → Type 0
Division n v = (q : ℕ) × (q < 2 ^ n) × (remainder n v < 2 ^ 128) × (v ≡ bit_xor (remainder n v) (product n q P))

division : (n v : ℕ) → v < 2 ^ (128 + n) → Division n v
unfolding remainder product
division zero v h = (0, pow_pos 0, h, sym (xor_zero_r v))
division (suc n) v h =
    let d : Division n (w n v h) = division n (w n v h) (fewer n v h) in (
      c n v h * 2 ^ n + d.0,
      subst (λ (k : ℕ). c n v h * 2 ^ n + d.0 < k) (mul_comm 2 (2 ^ n) ∙ sym (pow-suc 2 n)) (digits_lt (mod-lt (v / 2 ^ (128 + n)) two_pos) d.1),
      d.2,
      step n v h d.0 d.1 d.3,
    )

pub stands : Laws
stands = record {
  divides = λ n v h. let d : Division n v = division n v h in record { quotient = d.0; low = d.2; whole = d.3 };
  dots = dots;
  distributes = λ a b c. dot-linear c a b;
}
