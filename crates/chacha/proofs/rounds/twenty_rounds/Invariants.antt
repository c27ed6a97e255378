use Rattle.std.proofs.Common.{◌≡◌}
use Rattle.chacha.proofs.rounds.twenty_rounds.Given as goal
use Rattle.chacha.specs.ChaCha20.{double_rounds}

abbrev pub invariant-loop : goal.invariant-loop
invariant-loop l = l.s ≡ double_rounds l.counter l.initial.s
