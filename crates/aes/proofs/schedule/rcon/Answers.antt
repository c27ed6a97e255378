use Rattle.std.proofs.Common.{◌-◌, arith}
use Rattle.std.proofs.lemmas.List.FromFn.{get_or-map-range_with_len}
use Rattle.aes_tables.specs.Field.{xtime}
use Rattle.aes.specs.Cipher.{rcon}
use Rattle.aes.proofs.schedule.rcon.Goals as goal

pub returns : goal.returns
unfolding rcon xtime
returns c = get_or-map-range_with_len rcon 1 10 (c.args.j - 1) c.args.j 0 (omega arith) (omega arith)
