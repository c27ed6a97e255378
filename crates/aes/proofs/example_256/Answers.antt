use Rattle.std.proofs.Common.{refl}
use Rattle.aes_tables.specs.Field.{sbox, mul, xtime, inverse, affine}
use Rattle.aes.specs.Cipher.{aes, cipher, rounds, key_expansion, expanded, temp, rcon, sub_word, rot_word, add_round_key, mix_columns, shift_rows, sub_bytes}
use Rattle.aes.proofs.example_256.Goals as goal

pub returns : goal.returns
unfolding aes cipher rounds key_expansion expanded temp rcon sub_word rot_word add_round_key mix_columns shift_rows sub_bytes sbox mul xtime inverse affine
returns c = refl
