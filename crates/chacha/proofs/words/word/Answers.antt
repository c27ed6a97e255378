use Rattle.std.proofs.Common.{◌∙◌}
use Rattle.chacha.proofs.Serial.{word_value}
use Rattle.chacha.proofs.words.word.Goals as goal

pub returns : goal.returns
returns c = c.from_le_bytes.ensures ∙ word_value c.args.s.now c.args.i
