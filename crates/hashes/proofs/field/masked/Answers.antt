use Rattle.std.proofs.Common.{arith}
use Rattle.hashes.proofs.Sums.{masked}
use Rattle.hashes.proofs.field.masked.Goals as goal

pub returns : goal.returns
returns c = masked c.args.w c.args.v (omega arith)
