use Rattle.std.proofs.Common.{◌≡◌, ◌-◌}
use Rattle.hashes.specs.Halves.{turns}
use Rattle.hashes.proofs.field.dot.Given as goal

abbrev pub invariant-loop : goal.invariant-loop
invariant-loop l = turns (128 - l.counter) l.rest l.b l.sum ≡ turns 128 l.a l.b 0
