use Rattle.std.proofs.Common.{sym}
use Rattle.forms.proofs.Digits.{length-unhexed}
use Rattle.forms.proofs.hex.Hex.len.Goals as goal

pub returns : goal.returns
returns c = sym (length-unhexed c.args.self.now.digits.now)
