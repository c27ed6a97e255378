-- The key that an expanded key was made from.
use Rattle.std.specs.Prelude.{ℕ, Bool, true, cond, List, ◌==◌}
use Rattle.aes.specs.KeyBytes.{key_bytes}
use Rattle.aes.specs.declared.key.AesKey.{AesKey}

-- the bytes of the key
unfoldable pub key_of : AesKey → List ℕ
key_of k = key_bytes k.nk k.words

-- the lengths of keys
abbrev pub admitted : ℕ → Bool
admitted n = cond (n == 16) true (n == 32)
