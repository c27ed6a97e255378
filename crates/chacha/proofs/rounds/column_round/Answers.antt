use Rattle.chacha.proofs.rounds.column_round.Goals as goal
use Rattle.chacha.specs.ChaCha20.{column_round}

pub returns : goal.returns
unfolding column_round
returns c = cc
