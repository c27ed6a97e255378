-- The lengths and the bytes of a block and of a subkey.
use Rattle.std.proofs.Common.{◌≡◌, ℕ, zero, suc, ◌*◌, List, [], ◌∷◌, length, refl, ap, ◌∙◌}
use Rattle.octets.specs.Strings.{Bytes}
use Rattle.std.proofs.lemmas.List.{length-set}
use Rattle.chacha.proofs.Serial.{length-serialized, bytes-serialized}
use Rattle.chacha.proofs.Sums.{length-sums}
use Rattle.chacha.specs.ChaCha20.{state, quarter_round_at, column_round, diagonal_round, double_rounds, block, subkey}
use Rattle.chacha.specs.Words.{words}

length_at : (x y z w : ℕ) (s : List ℕ) → length (quarter_round_at x y z w s) ≡ length s
unfolding quarter_round_at
length_at x y z w s = simp length-set

length-rounds : (n : ℕ) (s : List ℕ) → length (double_rounds n s) ≡ length s
unfolding double_rounds column_round diagonal_round
length-rounds zero s = refl
length-rounds (suc n) s = simp length_at (length-rounds n s)

length-state : (key : List ℕ) (a b c d : ℕ) → length (state key (a ∷ b ∷ c ∷ d ∷ [])) ≡ 16
unfolding state
length-state key a b c d = refl

pub length-block : (key : List ℕ) (counter : ℕ) (nonce : List ℕ) → length (block key counter nonce) ≡ 64
unfolding block
length-block key counter nonce =
    let initial = state key (counter ∷ words 3 nonce) in
    length-serialized _ ∙ ap (λ (n : ℕ). 4 * n) (length-sums (double_rounds 10 initial) initial ∙ length-rounds 10 initial ∙ length-state key counter _ _ _)

pub bytes-block : (key : List ℕ) (counter : ℕ) (nonce : List ℕ) → Bytes (block key counter nonce)
unfolding block
bytes-block key counter nonce = bytes-serialized _

pub length-subkey : (key input : List ℕ) → length (subkey key input) ≡ 32
unfolding subkey
length-subkey key input = length-serialized _

pub bytes-subkey : (key input : List ℕ) → Bytes (subkey key input)
unfolding subkey
bytes-subkey key input = bytes-serialized _
