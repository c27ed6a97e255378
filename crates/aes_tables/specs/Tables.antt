-- Words of four bytes, and the word that SubBytes and MixColumns make of the byte in row 0 of a column.
use Rattle.std.specs.Prelude.{ℕ, ◌+◌, ◌*◌, ◌^◌}
use Rattle.aes_tables.specs.Field.{sbox, mul}

-- the word of four bytes, the highest first
abbrev pub word : ℕ → ℕ → ℕ → ℕ → ℕ
word a b c d = a * 2 ^ 24 + b * 2 ^ 16 + c * 2 ^ 8 + d

-- the first column of the matrix of MixColumns times the S-box of b
unfoldable pub t0 : ℕ → ℕ
t0 b = word (mul 2 (sbox b)) (sbox b) (sbox b) (mul 3 (sbox b))
