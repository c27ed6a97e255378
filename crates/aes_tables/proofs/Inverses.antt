-- An element of the field times its inverse.
use Rattle.std.proofs.Common.{◌≡◌, ℕ, ◌+◌, ◌-◌, ◌<◌, sym, refl, ap, ◌∙◌, arith}
use Rattle.std.proofs.lemmas.List.FromFn.{get_or-map-range_with_len}
use Rattle.std.proofs.lemmas.List.{get_or-replicate}
use Rattle.aes_tables.specs.Field.{mul, xtime, inverse, Inverse}

-- the products from 1 on, which antt computes
after : ℕ → ℕ
after k = mul (k + 1) (inverse (k + 1))

products : (k : ℕ) → k < 255 → after k ≡ 1
unfolding after inverse mul xtime
products k h = sym (get_or-map-range_with_len after 0 255 k k 0 h (omega arith)) ∙ get_or-replicate 255 k 1 0 h

product : (b : ℕ) → 0 < b → b < 256 → mul b (inverse b) ≡ 1
unfolding after
product b p h =
    let e : b - 1 + 1 ≡ b = omega arith in
    ap (λ (x : ℕ). mul x (inverse x)) (sym e) ∙ products (b - 1) (omega arith)

inverse-zero : inverse 0 ≡ 0
unfolding inverse mul xtime
inverse-zero = refl

pub inverts : (b : ℕ) → b < 256 → Inverse b (inverse b)
inverts b h = record { product = λ p. product b p h; of_zero = λ e. ap inverse e ∙ inverse-zero }
