-- What holds of AES for any lists, and of the key of any expanded key.
use Rattle.std.specs.Prelude.{◌≡◌, ℕ, true, List, length}
use Rattle.octets.specs.Strings.{Bytes}
use Rattle.aes.specs.Cipher.{aes}
use Rattle.aes.specs.Key.{key_of, admitted}
use Rattle.aes.specs.declared.key.AesKey.{AesKey}

pub record Laws : Type 0 where
  pub value_length : (key block : List ℕ) → length (aes key block) ≡ 16
  pub value_bytes : (key block : List ℕ) → Bytes (aes key block)
  pub key_of_length : (k : AesKey) → admitted (length (key_of k)) ≡ true
  pub key_of_bytes : (k : AesKey) → Bytes (key_of k)
