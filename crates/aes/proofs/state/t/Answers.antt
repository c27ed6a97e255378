use Rattle.std.proofs.Common.{◌*◌, ap, ◌∙◌}
use Rattle.aes.proofs.Words.{turned, t-turned}
use Rattle.aes.proofs.state.t.Goals as goal

pub returns : goal.returns
returns c = c.rotate_right.ensures ∙ ap (turned (8 * c.args.r)) c.t0.ensures ∙ t-turned c.args.r c.args.b c.requires
