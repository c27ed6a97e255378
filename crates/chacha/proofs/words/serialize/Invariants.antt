use Rattle.std.proofs.Common.{◌≡◌, ◌*◌, take}
use Rattle.chacha.specs.Words.{serialized}
use Rattle.chacha.proofs.words.serialize.Given as goal

abbrev pub invariant-loop-i : goal.invariant-loop-i
invariant-loop-i l = take (4 * l.i) l.bytes ≡ serialized (take l.i l.words)
