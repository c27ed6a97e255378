-- ChaCha20, RFC 8439, section 2: the quarter round, the rounds and the block function; and HChaCha20, which is made of
-- the same rounds.
use Rattle.std.specs.Prelude.{ℕ, zero, suc, List, [], ◌∷◌, ◌++◌, map, bit_xor, slice_index, slice_set}
use Rattle.chacha.specs.Words.{plus, rotl, words, serialized, sums}

-- 2.1 The quarter round, on four words
unfoldable pub quarter_round : ℕ × ℕ × ℕ × ℕ → ℕ × ℕ × ℕ × ℕ
quarter_round q =
    let a₁ = plus q.0 q.1 in
    let d₁ = rotl (bit_xor q.3 a₁) 16 in
    let c₁ = plus q.2 d₁ in
    let b₁ = rotl (bit_xor q.1 c₁) 12 in
    let a₂ = plus a₁ b₁ in
    let d₂ = rotl (bit_xor d₁ a₂) 8 in
    let c₂ = plus c₁ d₂ in
    let b₂ = rotl (bit_xor b₁ c₂) 7 in
    (a₂, b₂, c₂, d₂)

-- 2.2 QUARTERROUND(x, y, z, w): the quarter round on four words of a state, which has sixteen
unfoldable pub quarter_round_at : ℕ → ℕ → ℕ → ℕ → List ℕ → List ℕ
quarter_round_at x y z w s =
    let q = quarter_round (slice_index s x, slice_index s y, slice_index s z, slice_index s w) in
    slice_set (slice_set (slice_set (slice_set s x q.0) y q.1) z q.2) w q.3

-- 2.3 A column round and a diagonal round; the twenty rounds are ten times both
unfoldable pub column_round : List ℕ → List ℕ
column_round s = quarter_round_at 3 7 11 15 (quarter_round_at 2 6 10 14 (quarter_round_at 1 5 9 13 (quarter_round_at 0 4 8 12 s)))

unfoldable pub diagonal_round : List ℕ → List ℕ
diagonal_round s = quarter_round_at 3 4 9 14 (quarter_round_at 2 7 8 13 (quarter_round_at 1 6 11 12 (quarter_round_at 0 5 10 15 s)))

unfoldable pub double_rounds : ℕ → List ℕ → List ℕ
double_rounds zero s = s
double_rounds (suc n) s = diagonal_round (column_round (double_rounds n s))

-- 2.3 The state: four constants, the eight words of the key and four more words
abbrev pub constants : List ℕ
constants = 0x61707865 ∷ 0x3320646e ∷ 0x79622d32 ∷ 0x6b206574 ∷ []

unfoldable pub state : List ℕ → List ℕ → List ℕ
state key last = constants ++ (words 8 key ++ last)

-- 2.3.1 The block function: the last words are the counter and the nonce
unfoldable pub block : List ℕ → ℕ → List ℕ → List ℕ
block key counter nonce =
    let initial = state key (counter ∷ words 3 nonce) in
    serialized (sums (double_rounds 10 initial) initial)

-- HChaCha20: the last words are the input. The starting state is not added; the words 0 to 3 and 12 to 15 are the subkey
unfoldable pub subkey : List ℕ → List ℕ → List ℕ
subkey key input =
    let mixed = double_rounds 10 (state key (words 4 input)) in
    serialized (map (λ i. slice_index mixed i) (0 ∷ 1 ∷ 2 ∷ 3 ∷ 12 ∷ 13 ∷ 14 ∷ 15 ∷ []))
