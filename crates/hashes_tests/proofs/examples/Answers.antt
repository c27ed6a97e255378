use Rattle.std.proofs.Common.{refl}
use Rattle.octets.specs.Strings.{xor, le, be, le_value, be_value}
use Rattle.aes_tables.specs.Field.{sbox, mul, xtime, inverse, affine}
use Rattle.aes.specs.Cipher.{sub_bytes, shift_rows, mix_columns, add_round_key, rounds, cipher, sub_word, rot_word, rcon, temp, expanded, key_expansion, aes}
use Rattle.hashes.specs.Chain.{chained}
use Rattle.hashes.specs.Cmac.{subkey, cmac}
use Rattle.hashes_tests.proofs.examples.Goals as goal

pub returns : goal.returns
unfolding cmac subkey chained xor le be le_value be_value aes cipher rounds key_expansion expanded temp rcon sub_word rot_word add_round_key mix_columns shift_rows sub_bytes sbox mul xtime inverse affine
returns c = record { first_subkey = refl; second_subkey = refl; empty = refl; sixteen = refl; forty = refl }
