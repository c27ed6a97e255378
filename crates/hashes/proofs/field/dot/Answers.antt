use Rattle.std.proofs.Common.{ℕ, ◌+◌, ◌-◌, ◌/◌, sym, ap, ◌∙◌, arith}
use lib.Bits.{bit_xor}
use Rattle.hashes.specs.Halves.{half, turns}
use Rattle.hashes.proofs.Products.{turns_more, turns-none, dot_is}
use Rattle.hashes.proofs.field.dot.Goals as goal

pub loop-preserved : goal.loop-preserved
loop-preserved c =
    ap (turns (128 - (c.loop.counter + 1)) (c.loop.rest / 2) c.args.b)
    (c.halved-sum.ensures ∙ ap (λ (x : ℕ). half (bit_xor c.loop.sum x)) c.masked.ensures)
    ∙ sym (turns_more 128 c.loop.counter c.loop.rest c.args.b c.loop.sum c.loop-test.true)
    ∙ c.loop.invariant

pub returns : goal.returns
returns c =
    sym (turns-none 128 c.loop.counter c.loop.rest c.args.b c.loop.sum c.loop-test.false)
    ∙ c.loop.invariant ∙ dot_is c.args.a c.args.b (omega arith)
