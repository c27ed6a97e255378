use Rattle.std.proofs.Common.{◌≡◌, take}
use Rattle.octets.specs.Strings.{xor}
use Rattle.octets.proofs.add_into.Given as goal

abbrev pub invariant-loop-i : goal.invariant-loop-i
invariant-loop-i l = l.dst ≡ xor l.initial.dst (take l.i l.s-items)
