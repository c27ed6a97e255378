use Rattle.std.proofs.Common.{sym, ◌∙◌, arith}
use Rattle.octets.proofs.Numbers.{be-eight}
use Rattle.octets.proofs.be_value.Goals as goal

pub returns : goal.returns
returns c = c.from_be_bytes.ensures ∙ sym (be-eight c.args.bytes.now (omega arith))
