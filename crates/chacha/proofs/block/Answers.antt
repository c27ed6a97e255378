use Rattle.chacha.proofs.block.Goals as goal
use Rattle.chacha.specs.ChaCha20.{block}

pub returns : goal.returns
unfolding block
returns c = rw (c.serialize.ensures, c.sum.ensures, c.twenty_rounds.ensures, c.state-initial.ensures, c.words.ensures)
