use Rattle.std.proofs.Common.{◌≡◌, ◌++◌, take, drop}
use Rattle.forms.specs.Hex.{unhexed}
use Rattle.forms.proofs.hex.Hex.decode.Given as goal

abbrev pub invariant-loop-i : goal.invariant-loop-i
invariant-loop-i l = l.area ≡ take l.i (unhexed l.self.digits.now) ++ drop l.i l.initial.area
