-- A state held as four words, one to a column.
use Rattle.std.specs.Prelude.{◌≡◌, ℕ, List, [], ◌∷◌, bit_xor, slice_index}
use Rattle.aes_tables.specs.Field.{sbox, mul}
use Rattle.aes_tables.specs.Tables.{word}
use Rattle.aes.specs.Cipher.{at, byte, state, mixed}

-- the sixteen bytes of four words
unfoldable pub bytes_of : List ℕ → List ℕ
bytes_of s = state (λ r c. byte r (slice_index s c))

-- the bytes of a word
pub record HasBytes (w a b c d : ℕ) : Type 0 where
  pub b0 : byte 0 w ≡ a
  pub b1 : byte 1 w ≡ b
  pub b2 : byte 2 w ≡ c
  pub b3 : byte 3 w ≡ d

-- w is column c of a state
abbrev pub IsColumn : ℕ → List ℕ → ℕ → Type 0
IsColumn w s c = HasBytes w (at s 0 c) (at s 1 c) (at s 2 c) (at s 3 c)

-- SubBytes of byte 0 of a, byte 1 of b, byte 2 of c and byte 3 of d, as a word
unfoldable pub sub_column : ℕ → ℕ → ℕ → ℕ → ℕ
sub_column a b c d = word (sbox (byte 0 a)) (sbox (byte 1 b)) (sbox (byte 2 c)) (sbox (byte 3 d))

-- w is what MixColumns makes of the column of the bytes p, q, r and s
abbrev pub IsMixed : ℕ → ℕ → ℕ → ℕ → ℕ → Type 0
IsMixed w p q r s = HasBytes w (mixed p q r s) (mixed q r s p) (mixed r s p q) (mixed s p q r)

-- w is what MixColumns makes of the word sub_column a b c d
abbrev pub IsMixedSub : ℕ → ℕ → ℕ → ℕ → ℕ → Type 0
IsMixedSub w a b c d = IsMixed w (sbox (byte 0 a)) (sbox (byte 1 b)) (sbox (byte 2 c)) (sbox (byte 3 d))

-- What the byte b in row r of a column gives to the column by SubBytes and MixColumns: column r of the matrix of
-- MixColumns, times the S-box of b.
unfoldable pub t : ℕ → ℕ → ℕ
t r b =
    let s = sbox b in
    slice_index (word (mul 2 s) s s (mul 3 s) ∷ word (mul 3 s) (mul 2 s) s s ∷ word s (mul 3 s) (mul 2 s) s ∷ word s s (mul 3 s) (mul 2 s) ∷ []) r

-- SubBytes and MixColumns of byte 0 of a, byte 1 of b, byte 2 of c and byte 3 of d
unfoldable pub mix_column : ℕ → ℕ → ℕ → ℕ → ℕ
mix_column a b c d = bit_xor (bit_xor (bit_xor (t 0 (byte 0 a)) (t 1 (byte 1 b))) (t 2 (byte 2 c))) (t 3 (byte 3 d))
