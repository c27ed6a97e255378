use Rattle.aes.specs.Columns.{sub_column}
use Rattle.aes.proofs.state.sub_column.Goals as goal

pub returns : goal.returns
unfolding sub_column
returns c = cc
