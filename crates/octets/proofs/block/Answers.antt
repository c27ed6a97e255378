use Rattle.std.proofs.Common.{◌≡◌, ℕ, length, min, ap, ◌∙◌, arith}
use Rattle.octets.proofs.Slices.{filled-front}
use Rattle.octets.proofs.block.Goals as goal

pub returns : goal.returns
returns g c = filled-front _ c.args.s.now c.min-n.result c.copy_from_slice.new.self (c.min-n.ensures ∙ ap (min (length c.args.s.now)) (omega arith)) c.copy_from_slice.ensures.after
