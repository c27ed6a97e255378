use Rattle.std.proofs.Common.{rules}
use Rattle.expanders.proofs.keys.AesExpander.mask.Goals as goal
use Rattle.expanders.specs.Sequences.{mask}

pub returns : goal.returns
unfolding mask
returns c = search rules
