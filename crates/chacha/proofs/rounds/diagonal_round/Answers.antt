use Rattle.chacha.proofs.rounds.diagonal_round.Goals as goal
use Rattle.chacha.specs.ChaCha20.{diagonal_round}

pub returns : goal.returns
unfolding diagonal_round
returns c = cc
