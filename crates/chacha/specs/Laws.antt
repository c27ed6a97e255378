-- What holds of the block function and of HChaCha20, for any lists.
use Rattle.std.specs.Prelude.{◌≡◌, ℕ, List, length}
use Rattle.octets.specs.Strings.{Bytes}
use Rattle.chacha.specs.ChaCha20.{block, subkey}

pub record Laws : Type 0 where
  pub block_length : (key : List ℕ) (counter : ℕ) (nonce : List ℕ) → length (block key counter nonce) ≡ 64
  pub block_bytes : (key : List ℕ) (counter : ℕ) (nonce : List ℕ) → Bytes (block key counter nonce)
  pub subkey_length : (key input : List ℕ) → length (subkey key input) ≡ 32
  pub subkey_bytes : (key input : List ℕ) → Bytes (subkey key input)
