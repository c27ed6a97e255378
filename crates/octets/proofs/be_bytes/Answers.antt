use Rattle.std.proofs.Common.{reverse, sym, ap, ◌∙◌}
use Rattle.octets.proofs.Numbers.{le-eight}
use Rattle.octets.proofs.be_bytes.Goals as goal
use Rattle.octets.specs.Strings.{be}

pub returns : goal.returns
unfolding be
returns c = c.to_be_bytes.ensures ∙ sym (ap reverse (le-eight c.args.n))
