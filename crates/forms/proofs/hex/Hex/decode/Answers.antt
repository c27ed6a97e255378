use Rattle.std.proofs.Common.{ℕ, ◌+◌, ◌*◌, ◌/◌, List, [], length, get_or, set, ap, ◌∙◌, arith}
use Rattle.forms.specs.Hex.{unhexed, worth}
use Rattle.forms.proofs.Digits.{length-unhexed, unhexed-at, front-more, front-all}
use Rattle.forms.proofs.hex.Hex.decode.Goals as goal

pub bounds-area-i : goal.bounds-area-i
bounds-area-i c = omega (arith, c.as_chunks.ensures.front_len, length-unhexed c.args.self.now.digits.now)

pub loop-i-preserved : goal.loop-i-preserved
loop-i-preserved c =
    let ds = c.args.self.now.digits.now in
    ap (λ (l : List ℕ). set l c.loop-i.i c.pair.result) c.loop-i.invariant
    ∙ front-more (unhexed ds) c.args.area.now c.loop-i.i c.pair.result (omega (arith, c.as_chunks.ensures.front_len, length-unhexed ds)) (omega arith)
    (c.pair.ensures ∙ ap (λ (ps : List (List ℕ)). worth (get_or (get_or ps c.loop-i.i []) 0 0) * 16 + worth (get_or (get_or ps c.loop-i.i []) 1 0)) c.as_chunks.ensures.front ∙ unhexed-at ds c.loop-i.i (length ds / 2) (omega (arith, c.as_chunks.ensures.front_len)) (omega arith))

pub returns : goal.returns
returns c =
    let ds = c.args.self.now.digits.now in
    let done = front-all (unhexed ds) c.args.area.now c.loop-i.area c.loop-i.i c.len-needed.result c.len-needed.ensures (omega (arith, c.as_chunks.ensures.front_len, length-unhexed ds)) c.if-area-needed.false c.loop-i.invariant in
    record { answer = done.0; after = done.1 }
