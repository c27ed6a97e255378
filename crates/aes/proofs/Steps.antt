-- The steps of the cipher on a state of four words.
use Rattle.std.proofs.Common.{◌≡◌, ℕ, ◌+◌, ◌*◌, ◌/◌, ◌%◌, ◌<◌, List, [], ◌∷◌, map, get_or, ap, ◌∙◌, add-zero, div-one, arith}
use lib.Bits.{bit_xor}
use Rattle.std.specs.List.{range_with_len}
use Rattle.std.specs.Simd.{first_chunks}
use Rattle.octets.specs.Strings.{Bytes}
use Rattle.octets.proofs.Arrays.{chunk-item}
use Rattle.aes.specs.Cipher.{key_word, sub_bytes, shift_rows, mix_columns, add_round_key}
use Rattle.aes.specs.Columns.{IsColumn, bytes_of, sub_column, mix_column}
use Rattle.aes.proofs.Words.{word_bytes}
use Rattle.aes.proofs.Columns.{four, own-bytes, xor_bytes, sub-bytes, mixed-bytes}

-- four words, each with a word of the round key added
abbrev pub keyed : (ℕ → ℕ) → List ℕ → List ℕ
keyed f key = map (λ c. bit_xor (f c) (get_or key c 0)) (range_with_len 0 4)

-- AddRoundKey of a state whose columns are four words
pub add-key : (s key : List ℕ) (f : ℕ → ℕ) → IsColumn (f 0) s 0 → IsColumn (f 1) s 1 → IsColumn (f 2) s 2 → IsColumn (f 3) s 3
    → bytes_of (keyed f key) ≡ add_round_key s key 0
unfolding add_round_key
add-key s key f a b c d =
    four _ _ _ _
    (xor_bytes (f 0) _ a (own-bytes (get_or key 0 0))) (xor_bytes (f 1) _ b (own-bytes (get_or key 1 0)))
    (xor_bytes (f 2) _ c (own-bytes (get_or key 2 0))) (xor_bytes (f 3) _ d (own-bytes (get_or key 3 0)))

-- a word of a string that is cut into words
pub word-chunk : (s : List ℕ) (k i : ℕ) → i < k → key_word (get_or (first_chunks 4 k s) i []) 0 ≡ key_word s i
word-chunk s k i h =
    let a = chunk-item 4 k i 0 s h (omega arith) in
    let b = chunk-item 4 k i 1 s h (omega arith) in
    let c = chunk-item 4 k i 2 s h (omega arith) in
    let d = chunk-item 4 k i 3 s h (omega arith) in
    simp (a, b, c, d, add-zero)

-- AddRoundKey of a block that is cut into its columns
pub loading : (block key : List ℕ) (columns : List (List ℕ)) → Bytes block → columns ≡ first_chunks 4 4 block
    → bytes_of (keyed (λ c. key_word (get_or columns c []) 0) key) ≡ add_round_key block key 0
loading block key columns b e =
    let f = λ (c : ℕ). key_word (get_or columns c []) 0 in
    let w = λ (c : ℕ) (h : c < 4). ap (λ (x : List (List ℕ)). key_word (get_or x c []) 0) e ∙ word-chunk block 4 c h in
    let own = λ (c : ℕ). word_bytes (get_or block (4 * c) 0) (get_or block (4 * c + 1) 0) (get_or block (4 * c + 2) 0) (get_or block (4 * c + 3) 0) (b (4 * c)) (b (4 * c + 1)) (b (4 * c + 2)) (b (4 * c + 3)) in
    add-key block key f (rw (w 0 (omega arith)) (own 0)) (rw (w 1 (omega arith)) (own 1)) (rw (w 2 (omega arith)) (own 2)) (rw (w 3 (omega arith)) (own 3))

-- f of the columns from which ShiftRows brings the bytes of column c
abbrev pub shifted : (ℕ → ℕ → ℕ → ℕ → ℕ) → List ℕ → ℕ → ℕ
shifted f s c = f (get_or s ((c + 0) % 4) 0) (get_or s ((c + 1) % 4) 0) (get_or s ((c + 2) % 4) 0) (get_or s ((c + 3) % 4) 0)

module _ (s key : List ℕ) where
  pub mixing : bytes_of (keyed (shifted mix_column s) key) ≡ add_round_key (mix_columns (shift_rows (sub_bytes (bytes_of s)))) key 0
  unfolding mix_columns shift_rows sub_bytes bytes_of
  mixing =
      add-key (mix_columns (shift_rows (sub_bytes (bytes_of s)))) key (shifted mix_column s)
      (mixed-bytes _ _ _ _) (mixed-bytes _ _ _ _) (mixed-bytes _ _ _ _) (mixed-bytes _ _ _ _)

  pub ending : bytes_of (keyed (shifted sub_column s) key) ≡ add_round_key (shift_rows (sub_bytes (bytes_of s))) key 0
  unfolding shift_rows sub_bytes bytes_of
  ending =
      add-key (shift_rows (sub_bytes (bytes_of s))) key (shifted sub_column s)
      (sub-bytes _ _ _ _) (sub-bytes _ _ _ _) (sub-bytes _ _ _ _) (sub-bytes _ _ _ _)

-- the bytes that `to_be_bytes` gives
abbrev be : ℕ → List ℕ
be w = (w / 16777216 % 256) ∷ (w / 65536 % 256) ∷ (w / 256 % 256) ∷ (w % 256) ∷ []

pub stored : (s p q r t : List ℕ) → p ≡ be (get_or s 0 0) → q ≡ be (get_or s 1 0) → r ≡ be (get_or s 2 0) → t ≡ be (get_or s 3 0)
    → ◌≡◌ {A = List ℕ} (get_or p 0 0 ∷ get_or p 1 0 ∷ get_or p 2 0 ∷ get_or p 3 0 ∷ get_or q 0 0 ∷ get_or q 1 0 ∷ get_or q 2 0 ∷ get_or q 3 0 ∷ get_or r 0 0 ∷ get_or r 1 0 ∷ get_or r 2 0 ∷ get_or r 3 0 ∷ get_or t 0 0 ∷ get_or t 1 0 ∷ get_or t 2 0 ∷ get_or t 3 0 ∷ []) (bytes_of s)
unfolding bytes_of
stored s p q r t a b c d = simp (a, b, c, d, div-one)
