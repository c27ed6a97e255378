use Rattle.chacha.proofs.rounds.quarter_round_at.Goals as goal
use Rattle.chacha.specs.ChaCha20.{quarter_round_at}

pub returns : goal.returns
unfolding quarter_round_at
returns c = cc
