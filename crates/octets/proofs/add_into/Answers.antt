use Rattle.std.proofs.Common.{take, sym, ◌∙◌, inr, arith}
use Rattle.octets.proofs.Xor.{xor-nil, xor-more, xor-upto}
use Rattle.octets.proofs.add_into.Goals as goal
use Rattle.std.proofs.lemmas.List.{length-take}

pub loop-i-init : goal.loop-i-init
loop-i-init c = sym (xor-nil c.args.dst.now)

pub loop-i-preserved : goal.loop-i-preserved
loop-i-preserved c =
    let n = length-take c.min-n.result c.args.src.now in
    rw c.loop-i.invariant (xor-more c.args.dst.now (take c.min-n.result c.args.src.now) c.loop-i.i (omega arith) (omega arith))

pub returns : goal.returns
returns c =
    c.loop-i.invariant ∙ xor-upto c.args.dst.now (take c.min-n.result c.args.src.now) c.loop-i.i (inr (omega arith))
    ∙ xor-upto c.args.dst.now c.args.src.now c.min-n.result (grind arith)
