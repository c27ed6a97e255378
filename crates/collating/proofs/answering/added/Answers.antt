use Rattle.collating.proofs.Stretches.{stretched, known-domain}
use Rattle.collating.proofs.answering.added.Goals as goal

pub returns : goal.returns
returns g c =
    let e = c.args.expander.now in
    let d = c.args.domain in
    let w = c.args.tweak.now in
    let i = c.args.input.now in
    let v = c.in_ok-add.ensures.answer in
    let size = g.met.E.Expander.size e d w i (record { known = known-domain (g.E.Expander.reach e) d _ _ v; tweak_long = c.told-tweak; tweak_bytes = c.fits-tweak; input_long = c.told-input; input_bytes = c.fits-input }) in
    let is = c.in_ok-add.ensures.after in
    let same = stretched (g.E.Expander.reach e) d c.args.from _ (g.E.Expander.sequence e d w i) c.args.bytes.now v size c.requires.zero in
    record { answer = rw (← v) (cc); after = rw (← v) (cc) }
