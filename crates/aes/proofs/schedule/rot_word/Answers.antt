use Rattle.std.proofs.Common.{◌∙◌, arith}
use Rattle.aes.proofs.Words.{rot-word}
use Rattle.aes.proofs.schedule.rot_word.Goals as goal

pub returns : goal.returns
returns c = c.rotate_left.ensures ∙ rot-word c.args.w (omega arith)
