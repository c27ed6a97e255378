use Rattle.std.proofs.Common.{refl}
use Rattle.chacha.proofs.examples.example_quarter_round.Goals as goal
use Rattle.chacha.specs.ChaCha20.{quarter_round}

pub returns : goal.returns
unfolding quarter_round
returns c = refl
