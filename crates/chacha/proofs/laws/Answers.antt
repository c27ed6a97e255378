use Rattle.chacha.proofs.Derived.{length-block, bytes-block, length-subkey, bytes-subkey}
use Rattle.chacha.proofs.laws.Goals as goal

pub returns : goal.returns
returns c = record { block_length = length-block; block_bytes = bytes-block; subkey_length = length-subkey; subkey_bytes = bytes-subkey }
