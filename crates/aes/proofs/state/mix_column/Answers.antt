use Rattle.aes.specs.Columns.{mix_column}
use Rattle.aes.proofs.state.mix_column.Goals as goal

pub returns : goal.returns
unfolding mix_column
returns c = cc
