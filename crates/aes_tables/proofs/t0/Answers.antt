use Rattle.std.proofs.Common.{arith}
use Rattle.std.proofs.lemmas.List.FromFn.{get_or-map-range_with_len}
use Rattle.aes_tables.specs.Field.{sbox, affine, inverse, mul, xtime}
use Rattle.aes_tables.specs.Tables.{t0}
use Rattle.aes_tables.proofs.t0.Goals as goal

pub returns : goal.returns
unfolding t0 sbox affine inverse mul xtime
returns c = get_or-map-range_with_len t0 0 256 c.args.b c.args.b 0 (omega arith) (omega arith)
