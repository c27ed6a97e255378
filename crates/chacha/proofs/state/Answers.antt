use Rattle.std.proofs.lemmas.List.{append-nil}
use Rattle.chacha.proofs.state.Goals as goal
use Rattle.chacha.specs.ChaCha20.{state}

pub returns : goal.returns
unfolding state
returns c = rw (c.copy_from_slice.ensures.after, c.copy_from_slice-2.ensures.after, c.copy_from_slice-3.ensures.after, c.words.ensures, append-nil)
