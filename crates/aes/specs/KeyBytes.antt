-- The key in a key schedule: its first words.
use Rattle.std.specs.Prelude.{ℕ, ◌*◌, ◌/◌, ◌%◌, List, map, slice_index}
use Rattle.std.specs.List.{range_with_len}
use Rattle.aes.specs.Cipher.{byte}

-- the bytes of the first nk words
unfoldable pub key_bytes : ℕ → List ℕ → List ℕ
key_bytes nk ws = map (λ i. byte (i % 4) (slice_index ws (i / 4))) (range_with_len 0 (4 * nk))
