use Rattle.aes.specs.Cipher.{sub_word}
use Rattle.aes.specs.Columns.{sub_column}
use Rattle.aes.proofs.schedule.sub_word.Goals as goal

pub returns : goal.returns
unfolding sub_word sub_column
returns c = c.sub_column.ensures
