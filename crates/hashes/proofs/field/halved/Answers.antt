use Rattle.std.proofs.Common.{◌/◌, ap}
use lib.Bits.{bit_xor}
use Rattle.hashes.specs.Halves.{half}
use Rattle.hashes.proofs.field.halved.Goals as goal

pub returns : goal.returns
unfolding half
returns c = ap (bit_xor (c.args.v / 2)) c.masked.ensures
