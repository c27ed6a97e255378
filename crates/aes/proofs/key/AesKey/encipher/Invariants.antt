use Rattle.std.proofs.Common.{◌≡◌}
use Rattle.aes.specs.Cipher.{rounds}
use Rattle.aes.specs.Columns.{bytes_of}
use Rattle.aes.proofs.key.AesKey.encipher.Given as goal

abbrev pub invariant-loop-key : goal.invariant-loop-key
invariant-loop-key l = bytes_of l.s ≡ rounds l.self.words l.block l.key-index
