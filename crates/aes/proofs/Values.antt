-- What holds of AES for any lists, and of the key of any expanded key.
use Rattle.std.proofs.Common.{◌≡◌, ℕ, ◌+◌, ◌*◌, ◌/◌, ◌%◌, ◌<◌, ◌≤◌, true, List, map, length, get_or, refl, ap, ◌∙◌, ⊎_elim, zero-add, arith, lit<}
use lib.Bits.{bit_xor, xor_lt}
use Rattle.std.specs.List.{range_with_len}
use Rattle.std.proofs.lemmas.List.FromFn.{length-map-range_with_len, get_or-map-range_with_len}
use Rattle.std.proofs.lemmas.List.{get_or_past}
use Rattle.std.proofs.lemmas.Bool.{cases_lt}
use Rattle.octets.specs.Strings.{Bytes}
use Rattle.aes_tables.specs.Field.{sbox}
use Rattle.aes_tables.proofs.Bounds.{sbox-lt}
use Rattle.aes.specs.Cipher.{at, byte, sub_bytes, shift_rows, add_round_key, cipher, aes}
use Rattle.aes.specs.Key.{key_of, admitted}
use Rattle.aes.specs.KeyBytes.{key_bytes}
use Rattle.aes.specs.declared.key.AesKey.{AesKey}
use Rattle.aes.proofs.Expansion.{length-key_bytes}
use Rattle.aes.proofs.Words.{byte-lt}

-- a list made from a function that gives bytes
made_bytes : (f : ℕ → ℕ) (n : ℕ) → ((i : ℕ) → f i < 256) → Bytes (map f (range_with_len 0 n))
made_bytes f n h k =
    ⊎_elim
    (λ l. rw (get_or-map-range_with_len f 0 n k k 0 l (zero-add k)) (h k))
    (λ g. rw (get_or_past (map f (range_with_len 0 n)) k 0 (rw (length-map-range_with_len f 0 n) g)) (lit< tt))
    (cases_lt k n)

sub-bytes : (s : List ℕ) → Bytes (sub_bytes s)
unfolding sub_bytes
sub-bytes s = made_bytes (λ i. sbox (at s (i % 4) (i / 4))) 16 (λ i. sbox-lt (at s (i % 4) (i / 4)))

shift-bytes : (s : List ℕ) → Bytes s → Bytes (shift_rows s)
unfolding shift_rows
shift-bytes s b = made_bytes (λ i. at s (i % 4) ((i / 4 + i % 4) % 4)) 16 (λ i. b (i % 4 + 4 * ((i / 4 + i % 4) % 4)))

add-bytes : (s ws : List ℕ) (n : ℕ) → Bytes s → Bytes (add_round_key s ws n)
unfolding add_round_key
add-bytes s ws n b =
    made_bytes (λ i. bit_xor (at s (i % 4) (i / 4)) (byte (i % 4) (get_or ws (4 * n + i / 4) 0))) 16
    (λ i. xor_lt 8 (at s (i % 4) (i / 4)) (byte (i % 4) (get_or ws (4 * n + i / 4) 0)) (b (i % 4 + 4 * (i / 4))) (byte-lt (i % 4) (get_or ws (4 * n + i / 4) 0)))

pub value_length : (key block : List ℕ) → length (aes key block) ≡ 16
unfolding aes cipher add_round_key
value_length key block = refl

pub value_bytes : (key block : List ℕ) → Bytes (aes key block)
unfolding aes cipher
value_bytes key block = add-bytes _ _ _ (shift-bytes _ (sub-bytes _))

pub key_of_bytes : (k : AesKey) → Bytes (key_of k)
unfolding key_of key_bytes
key_of_bytes k = made_bytes (λ i. byte (i % 4) (get_or k.words (i / 4) 0)) (4 * k.nk) (λ i. byte-lt (i % 4) (get_or k.words (i / 4) 0))

-- 4 and 8 words
pub words-admitted : (nk : ℕ) → 4 ≤ nk → nk ≤ 8 → nk % 4 ≡ 0 → admitted (4 * nk) ≡ true
words-admitted nk a b m =
    ⊎_elim
    (λ l. let e : nk ≡ 4 = omega arith in ap (λ (n : ℕ). admitted (4 * n)) e)
    (λ g. let e : nk ≡ 8 = omega arith in ap (λ (n : ℕ). admitted (4 * n)) e)
    (cases_lt nk 8)

pub key_of_length : (k : AesKey) → admitted (length (key_of k)) ≡ true
unfolding key_of
key_of_length k =
    ap admitted (length-key_bytes k.nk k.words) ∙ words-admitted k.nk k.sized.0 k.sized.1 k.sized.2
