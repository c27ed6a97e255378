use Rattle.std.proofs.Common.{refl}
use Rattle.octets.specs.Strings.{le, le_value}
use Rattle.chacha.proofs.examples.example_block.Goals as goal
use Rattle.chacha.specs.ChaCha20.{quarter_round, quarter_round_at, column_round, diagonal_round, double_rounds, state, block}
use Rattle.chacha.specs.Words.{word, serialized, sums}

pub returns : goal.returns
unfolding quarter_round quarter_round_at column_round diagonal_round double_rounds state block word serialized sums le le_value
returns c = refl
