use Rattle.chacha.proofs.subkey.Goals as goal
use Rattle.chacha.specs.ChaCha20.{subkey}

pub returns : goal.returns
unfolding subkey
returns c = rw (c.serialize.ensures, c.twenty_rounds.ensures, c.state-s.ensures, c.words.ensures)
