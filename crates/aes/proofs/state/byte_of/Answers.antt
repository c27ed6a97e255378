use Rattle.std.proofs.Common.{◌-◌, ◌*◌, ◌/◌, ◌^◌}
use lib.Bits.{and_mask}
use Rattle.aes.proofs.state.byte_of.Goals as goal

pub returns : goal.returns
returns c = and_mask (c.args.w / 2 ^ (24 - 8 * c.args.r)) 8
