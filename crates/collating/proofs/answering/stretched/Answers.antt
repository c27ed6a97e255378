use Rattle.std.proofs.Common.{◌-◌, arith}
use Rattle.collating.proofs.Stretches.{front-blank}
use Rattle.collating.proofs.answering.stretched.Goals as goal

pub added-requires-clause-zero : goal.added-requires-clause-zero
added-requires-clause-zero g c = front-blank 4097 (c.min-end.result - 0) c.blank-bytes.result c.blank-bytes.ensures (omega arith)
