-- The inputs of the published examples: RFC 8439, sections 2.1.1 and 2.3.2, and for HChaCha20 the draft of XChaCha20.
use Rattle.std.specs.Prelude.{ℕ, List, [], ◌∷◌}
use Rattle.std.specs.List.{range_with_len}

abbrev pub example_words : ℕ × ℕ × ℕ × ℕ
example_words = (0x11111111, 0x01020304, 0x9b8d6f43, 0x01234567)

-- 00 01 02 .. 1f
abbrev pub example_key : List ℕ
example_key = range_with_len 0 32

abbrev pub example_nonce : List ℕ
example_nonce = 0 ∷ 0 ∷ 0 ∷ 0x09 ∷ 0 ∷ 0 ∷ 0 ∷ 0x4a ∷ 0 ∷ 0 ∷ 0 ∷ 0 ∷ []

abbrev pub example_input : List ℕ
example_input = 0 ∷ 0 ∷ 0 ∷ 0x09 ∷ 0 ∷ 0 ∷ 0 ∷ 0x4a ∷ 0 ∷ 0 ∷ 0 ∷ 0 ∷ 0x31 ∷ 0x41 ∷ 0x59 ∷ 0x27 ∷ []
