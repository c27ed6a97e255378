-- The key of each keyed hash.
use Rattle.std.specs.Prelude.{ℕ, List}
use Rattle.aes.specs.Key.{key_of}
use Rattle.hashes.specs.declared.cmac.Cmac.{Cmac}
use Rattle.hashes.specs.declared.polyval.Polyval.{Polyval}

abbrev pub polyval_key : Polyval → List ℕ
polyval_key h = h.key.bytes

abbrev pub cmac_key : Cmac → List ℕ
cmac_key h = key_of h.keys.cipher
