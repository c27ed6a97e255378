use Rattle.chacha.proofs.rounds.quarter_round.Goals as goal
use Rattle.chacha.specs.ChaCha20.{quarter_round}

pub returns : goal.returns
unfolding quarter_round
returns c =
    let d₁ = c.rotate_left-d.ensures in
    let b₁ = c.rotate_left-b.ensures in
    let d₂ = c.rotate_left-d-2.ensures in
    let b₂ = c.rotate_left-b-2.ensures in
    cc
