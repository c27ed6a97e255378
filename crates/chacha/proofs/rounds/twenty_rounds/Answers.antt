use Rattle.std.proofs.Common.{◌≡◌, refl, ap, ◌∙◌, add-one, arith}
use Rattle.chacha.proofs.rounds.twenty_rounds.Goals as goal
use Rattle.chacha.specs.ChaCha20.{double_rounds}

pub loop-init : goal.loop-init
unfolding double_rounds
loop-init c = refl

pub loop-preserved : goal.loop-preserved
unfolding double_rounds
loop-preserved c = rw add-one (let i = c.loop.invariant in cc)

pub returns : goal.returns
returns c =
    let e : c.loop.counter ≡ 10 = omega arith in
    c.loop.invariant ∙ ap (λ n. double_rounds n c.args.s.now) e
