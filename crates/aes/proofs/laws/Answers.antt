use Rattle.aes.proofs.Values.{value_length, value_bytes, key_of_length, key_of_bytes}
use Rattle.aes.proofs.laws.Goals as goal

pub returns : goal.returns
returns c = record { value_length = value_length; value_bytes = value_bytes; key_of_length = key_of_length; key_of_bytes = key_of_bytes }
