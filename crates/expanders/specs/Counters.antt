-- Counters added at the end of a block, and what AES makes of them.
use Rattle.std.specs.Prelude.{◌≡◌, ℕ, zero, suc, ◌/◌, ◌%◌, List, [], ◌∷◌, ◌++◌, reverse, length, refl}
use Rattle.std.proofs.Common.{sym, ap, ap₂, ◌∙◌}
use Rattle.std.specs.Int.Bits.{xor_zero_r}
use Rattle.aes.proofs.Values.{value_length, value_bytes}
use Rattle.aes.specs.Cipher.{aes}
use Rattle.chacha.proofs.Serial.{le_four}
use Rattle.octets.specs.Strings.{Bytes, xor, xor_at, be, zeros}
use Rattle.expanders.specs.Sequences.{counter_block}

-- zero bytes change nothing
xor-after-zeros : (n : ℕ) (xs ys : List ℕ) → xor_at n xs ys ≡ xor xs (zeros n ++ ys)
unfolding xor_at xor
xor-after-zeros zero xs ys = refl
xor-after-zeros (suc n) [] ys = refl
xor-after-zeros (suc n) (x ∷ xs) ys = ap₂ (λ (a : ℕ) (t : List ℕ). a ∷ t) (sym (xor_zero_r x)) (xor-after-zeros n xs ys)

be-four : (n : ℕ) → be 4 n ≡ n / 16777216 % 256 ∷ n / 65536 % 256 ∷ n / 256 % 256 ∷ n % 256 ∷ []
unfolding be
be-four n = ap reverse (le_four n)

pub counted : (key base counter bytes block : List ℕ) (j : ℕ)
    → bytes ≡ j / 16777216 % 256 ∷ j / 65536 % 256 ∷ j / 256 % 256 ∷ j % 256 ∷ []
    → counter ≡ xor_at 12 base bytes
    → block ≡ aes key counter
    → block ≡ counter_block key base j
unfolding counter_block
counted key base counter bytes block j e f h =
    h ∙ ap (aes key) (f ∙ ap (xor_at 12 base) (e ∙ sym (be-four j)) ∙ xor-after-zeros 12 base (be 4 j))

pub length-counted : (key base : List ℕ) (j : ℕ) → length (counter_block key base j) ≡ 16
unfolding counter_block
length-counted key base j = value_length key _

pub bytes_counted : (key base : List ℕ) (j : ℕ) → Bytes (counter_block key base j)
unfolding counter_block
bytes_counted key base j = value_bytes key _
