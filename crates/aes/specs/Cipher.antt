-- The cipher of FIPS 197, section 5, for enciphering. A state is a list of sixteen bytes, with row r of column c at place
-- r + 4 c. A word is a number below 2^32, with byte 0 the highest.
use Rattle.std.specs.Prelude.{ℕ, zero, suc, ◌+◌, ◌-◌, ◌*◌, ◌/◌, ◌%◌, ◌^◌, cond, List, [], ◌∷◌, ◌++◌, map, length, ◌==◌, bit_xor, nat_lt, slice_index}
use Rattle.std.specs.List.{range_with_len}
use Rattle.aes_tables.specs.Field.{sbox, mul, xtime}
use Rattle.aes_tables.specs.Tables.{word}

-- row r of column c
abbrev pub at : List ℕ → ℕ → ℕ → ℕ
at s r c = slice_index s (r + 4 * c)

-- the state with f r c at row r of column c
abbrev pub state : (ℕ → ℕ → ℕ) → List ℕ
state f = map (λ i. f (i % 4) (i / 4)) (range_with_len 0 16)

-- byte r of a word
abbrev pub byte : ℕ → ℕ → ℕ
byte r w = w / 2 ^ (24 - 8 * r) % 256

-- 5.1.1 SubBytes
unfoldable pub sub_bytes : List ℕ → List ℕ
sub_bytes s = state (λ r c. sbox (at s r c))

-- 5.1.2 ShiftRows
unfoldable pub shift_rows : List ℕ → List ℕ
shift_rows s = state (λ r c. at s r ((c + r) % 4))

-- 5.1.3 MixColumns
abbrev pub mixed : ℕ → ℕ → ℕ → ℕ → ℕ
mixed a b c d = bit_xor (bit_xor (bit_xor (mul 2 a) (mul 3 b)) c) d

unfoldable pub mix_columns : List ℕ → List ℕ
mix_columns s = state (λ r c. mixed (at s r c) (at s ((r + 1) % 4) c) (at s ((r + 2) % 4) c) (at s ((r + 3) % 4) c))

-- 5.1.4 AddRoundKey, of the four words of a round
unfoldable pub add_round_key : List ℕ → List ℕ → ℕ → List ℕ
add_round_key s ws round = state (λ r c. bit_xor (at s r c) (byte r (slice_index ws (4 * round + c))))

-- 5.1 Cipher: the state after n rounds that mix columns, and after all nr rounds
unfoldable pub rounds : List ℕ → List ℕ → ℕ → List ℕ
rounds ws block zero = add_round_key block ws 0
rounds ws block (suc n) = add_round_key (mix_columns (shift_rows (sub_bytes (rounds ws block n)))) ws (suc n)

unfoldable pub cipher : ℕ → List ℕ → List ℕ → List ℕ
cipher nr ws block = add_round_key (shift_rows (sub_bytes (rounds ws block (nr - 1)))) ws nr

-- 5.2 KeyExpansion, of a key of nk words
unfoldable pub sub_word : ℕ → ℕ
sub_word w = word (sbox (byte 0 w)) (sbox (byte 1 w)) (sbox (byte 2 w)) (sbox (byte 3 w))

unfoldable pub rot_word : ℕ → ℕ
rot_word w = word (byte 1 w) (byte 2 w) (byte 3 w) (byte 0 w)

-- x to the power of n
abbrev pub xpower : ℕ → ℕ
xpower zero = 1
xpower (suc n) = xtime (xpower n)

unfoldable pub rcon : ℕ → ℕ
rcon j = word (xpower (j - 1)) 0 0 0

-- what word i adds to word i - nk, from w, the word i - 1
unfoldable pub temp : ℕ → ℕ → ℕ → ℕ
temp nk i w =
    cond (i % nk == 0) (bit_xor (sub_word (rot_word w)) (rcon (i / nk)))
    (cond (nat_lt 6 nk) (cond (i % nk == 4) (sub_word w) w) w)

abbrev pub next_word : ℕ → List ℕ → ℕ
next_word nk ws = bit_xor (slice_index ws (length ws - nk)) (temp nk (length ws) (slice_index ws (length ws - 1)))

-- the words after n more
unfoldable pub expanded : ℕ → ℕ → List ℕ → List ℕ
expanded nk zero ws = ws
expanded nk (suc n) ws = expanded nk n ws ++ next_word nk (expanded nk n ws) ∷ []

-- the words of the key itself
abbrev pub key_word : List ℕ → ℕ → ℕ
key_word key i = word (slice_index key (4 * i)) (slice_index key (4 * i + 1)) (slice_index key (4 * i + 2)) (slice_index key (4 * i + 3))

abbrev pub key_words : List ℕ → ℕ → List ℕ
key_words key nk = map (key_word key) (range_with_len 0 nk)

-- four words for each of the nk + 7 round keys
unfoldable pub key_expansion : List ℕ → ℕ → List ℕ
key_expansion key nk = expanded nk (4 * (nk + 7) - nk) (key_words key nk)

-- AES: the block enciphered under a key of nk words, in nk + 6 rounds
unfoldable pub aes : List ℕ → List ℕ → List ℕ
aes key block = cipher (length key / 4 + 6) (key_expansion key (length key / 4)) block
