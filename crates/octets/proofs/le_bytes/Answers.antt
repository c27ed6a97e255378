use Rattle.std.proofs.Common.{sym, ◌∙◌}
use Rattle.octets.proofs.Numbers.{le-eight}
use Rattle.octets.proofs.le_bytes.Goals as goal

pub returns : goal.returns
returns c = c.to_le_bytes.ensures ∙ sym (le-eight c.args.n)
