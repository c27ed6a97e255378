use Rattle.std.proofs.Common.{◌≡◌, drop}
use Rattle.collating.specs.Words.{looked_up}
use Rattle.collating.proofs.fields.look_up.Given as goal

abbrev pub invariant-loop-name : goal.invariant-loop-name
invariant-loop-name g l = looked_up l.word l.table ≡ looked_up l.word (drop l.name-index l.table)
