-- Sums of polynomials: laws of `bit_xor`, of the functions that keep it, and of single coefficients.
use Rattle.std.proofs.Common.{◌≡◌, ℕ, zero, suc, ◌+◌, ◌-◌, ◌*◌, ◌/◌, ◌%◌, ◌^◌, ◌<◌, Bool, true, ◌&&◌, eqb, sym, ap, ◌∙◌, subst, ap₂, ⊎_elim, add-zero, mod-lt, mod-eq_of_lt, zero-lt-suc, one-mul, zero-mul, arith, pow_pos, shr_lt}
use lib.Arith.{lt-one}
use lib.Pow.{split}
use lib.Bits.{bit_and, and_mask, and_zero_r, bit_xor, xor_assoc, xor_comm, xor_self, xor_zero_r, xor_shr, xor_mod, xor_block, xor_shifted}
use Rattle.std.proofs.lemmas.Bool.{and_parts, cases_lt, eqb-true}

-- sums of four, and of two with a part in common
pub four : (a b c d : ℕ) → bit_xor (bit_xor a b) (bit_xor c d) ≡ bit_xor (bit_xor a c) (bit_xor b d)
four a b c d =
    xor_assoc a b (bit_xor c d)
    ∙ ap (bit_xor a) (sym (xor_assoc b c d) ∙ ap (λ (x : ℕ). bit_xor x d) (xor_comm b c) ∙ xor_assoc c b d)
    ∙ sym (xor_assoc a c (bit_xor b d))

pub cancel : (a b : ℕ) → bit_xor (bit_xor a b) b ≡ a
cancel a b = xor_assoc a b b ∙ ap (bit_xor a) (xor_self b) ∙ xor_zero_r a

-- a shift keeps sums
pub shl : (a b k : ℕ) → bit_xor a b * 2 ^ k ≡ bit_xor (a * 2 ^ k) (b * 2 ^ k)
shl a b k =
    sym (add-zero (bit_xor a b * 2 ^ k))
    ∙ sym (xor_block k a b zero zero (pow_pos k) (pow_pos k))
    ∙ ap₂ bit_xor (add-zero (a * 2 ^ k)) (add-zero (b * 2 ^ k))

-- so does a bit times w
digit-times : (x y w : ℕ) → x < 2 → y < 2 → bit_xor x y * w ≡ bit_xor (x * w) (y * w)
digit-times zero y w hx hy = rw zero-mul
digit-times (suc zero) zero w hx hy = rw (zero-mul, one-mul, xor_zero_r)
digit-times (suc zero) (suc zero) w hx hy = rw (zero-mul, one-mul, xor_self)
digit-times (suc zero) (suc (suc y)) w hx hy = absurd (omega arith)
digit-times (suc (suc x)) y w hx hy = absurd (omega arith)

pub two_pos : zero < 2
two_pos = zero-lt-suc 1

pub bit-times : (u v k w : ℕ) → bit_xor u v / 2 ^ k % 2 * w ≡ bit_xor (u / 2 ^ k % 2 * w) (v / 2 ^ k % 2 * w)
bit-times u v k w =
    ap (λ (x : ℕ). x % 2 * w) (xor_shr u v k) ∙ ap (λ (x : ℕ). x * w) (xor_mod (u / 2 ^ k) (v / 2 ^ k) 1)
    ∙ digit-times (u / 2 ^ k % 2) (v / 2 ^ k % 2) w (mod-lt (u / 2 ^ k) two_pos) (mod-lt (v / 2 ^ k) two_pos)

pub low-times : (u v w : ℕ) → bit_xor u v % 2 * w ≡ bit_xor (u % 2 * w) (v % 2 * w)
low-times u v w =
    ap (λ (x : ℕ). x * w) (xor_mod u v 1) ∙ digit-times (u % 2) (v % 2) w (mod-lt u two_pos) (mod-lt v two_pos)

-- a bit times v, by a mask of 128 equal bits
digit-masked : (b v : ℕ) → b < 2 → v < 2 ^ 128 → bit_and v ((0 + (2 ^ 128 - b)) % 2 ^ 128) ≡ b * v
digit-masked zero v h l = rw zero-mul (and_zero_r v)
digit-masked (suc zero) v h l = rw one-mul (and_mask v 128 ∙ mod-eq_of_lt l)
digit-masked (suc (suc b)) v h l = absurd (omega arith)

pub masked : (w v : ℕ) → v < 2 ^ 128 → bit_and v ((0 + (2 ^ 128 - bit_and w 1)) % 2 ^ 128) ≡ w % 2 * v
masked w v l = rw (and_mask w 1) (digit-masked (w % 2) v (mod-lt w two_pos) l)

-- functions that keep sums
abbrev pub Linear : (ℕ → ℕ) → Type 0
Linear f = (u v : ℕ) → f (bit_xor u v) ≡ bit_xor (f u) (f v)

pub linear-zero : (f : ℕ → ℕ) → Linear f → f 0 ≡ 0
linear-zero f lf = lf 0 0 ∙ xor_self (f 0)

-- a test of each number below n
abbrev pub below : (ℕ → Bool) → ℕ → Bool
below t zero = true
below t (suc n) = t n && below t n

below_at : (t : ℕ → Bool) (n : ℕ) → below t n ≡ true → (i : ℕ) → i < n → t i ≡ true
below_at t zero e i h = absurd (omega arith)
below_at t (suc n) e i h =
    let p = and_parts (t n) (below t n) e in
    ⊎_elim (λ l. below_at t n p.1 i l) (λ g. ap t {x = i} {y = n} (omega arith) ∙ p.0) (cases_lt i n)

-- two that agree at each power of x agree
module _ (f g : ℕ → ℕ) (lf : Linear f) (lg : Linear g) where
  at_zero : f 0 ≡ g 0
  at_zero = linear-zero f lf ∙ sym (linear-zero g lg)

  at_top : (n c : ℕ) → c < 2 → f (2 ^ n) ≡ g (2 ^ n) → f (c * 2 ^ n) ≡ g (c * 2 ^ n)
  at_top n zero h e = rw zero-mul at_zero
  at_top n (suc zero) h e = rw one-mul e
  at_top n (suc (suc c)) h e = absurd (omega arith)

  pub agree : (n : ℕ) → ((i : ℕ) → i < n → f (2 ^ i) ≡ g (2 ^ i)) → (v : ℕ) → v < 2 ^ n → f v ≡ g v
  agree zero h v lt = ap f (lt-one lt) ∙ at_zero ∙ ap g (sym (lt-one lt))
  agree (suc n) h v lt =
      let cut : v ≡ bit_xor (v / 2 ^ n * 2 ^ n) (v % 2 ^ n) = sym (split v n) ∙ sym (xor_shifted (v / 2 ^ n) n (v % 2 ^ n) (mod-lt v (pow_pos n))) in
      let top : v / 2 ^ n < 2 = shr_lt 1 n (subst (λ (k : ℕ). v < 2 ^ k) (omega arith) lt) in
      ap f cut ∙ lf (v / 2 ^ n * 2 ^ n) (v % 2 ^ n)
      ∙ ap₂ bit_xor (at_top n (v / 2 ^ n) top (h n (omega arith))) (agree n (λ i l. h i (omega arith)) (v % 2 ^ n) (mod-lt v (pow_pos n)))
      ∙ sym (ap g cut ∙ lg (v / 2 ^ n * 2 ^ n) (v % 2 ^ n))

  -- so that a computed test of the powers suffices
  pub agree-by : (n : ℕ) → below (λ i. eqb (f (2 ^ i)) (g (2 ^ i))) n ≡ true → (v : ℕ) → v < 2 ^ n → f v ≡ g v
  agree-by n e = agree n (λ i h. eqb-true (f (2 ^ i)) (g (2 ^ i)) (below_at (λ i. eqb (f (2 ^ i)) (g (2 ^ i))) n e i h))
