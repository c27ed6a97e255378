use Rattle.hashes.specs.Chaining.{absorbed-none}
use Rattle.hashes.proofs.state.Chain.new.Goals as goal

pub returns : goal.returns
returns c = absorbed-none
