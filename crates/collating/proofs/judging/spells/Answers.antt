use Rattle.forms.specs.Said.{bytes_of}
use Rattle.collating.proofs.Judged.{longer}
use Rattle.collating.proofs.judging.spells.Goals as goal

pub returns-in-None : goal.returns-in-None
returns-in-None c = longer c.args.bytes.now (bytes_of c.args.hex.now) c.requires c.in-None.ensures
