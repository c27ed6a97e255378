use Rattle.std.proofs.Common.{◌∙◌}
use Rattle.octets.proofs.Slices.{filled-take}
use Rattle.sealing.proofs.plain_open.front.Goals as goal

pub returns : goal.returns
returns c = c.block.ensures ∙ filled-take 8 c.args.record.now c.requires
