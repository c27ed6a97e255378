use Rattle.std.proofs.Common.{arith}
use Rattle.std.proofs.lemmas.List.FromFn.{get_or-map-range_with_len}
use Rattle.aes_tables.specs.Field.{sbox, affine, inverse, mul, xtime}
use Rattle.aes_tables.proofs.Inverses.{inverts}
use Rattle.aes_tables.proofs.sub_byte.Goals as goal

pub returns : goal.returns
unfolding sbox affine inverse mul xtime
returns c = record {
  rule = get_or-map-range_with_len sbox 0 256 c.args.b c.args.b 0 (omega arith) (omega arith);
  inverts = inverts c.args.b (omega arith);
}
