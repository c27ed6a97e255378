use Rattle.std.proofs.Common.{◌*◌, sym, refl, ap, ◌∙◌, arith}
use Rattle.std.proofs.lemmas.List.{take_all}
use Rattle.chacha.proofs.Serial.{serial-more}
use Rattle.chacha.proofs.words.serialize.Goals as goal
use Rattle.chacha.specs.Words.{serialized}

pub loop-i-init : goal.loop-i-init
unfolding serialized
loop-i-init c = refl

pub loop-i-preserved : goal.loop-i-preserved
loop-i-preserved c =
    serial-more c.args.words.now c.loop-i.bytes c.copy_from_slice.new.self c.loop-i.i (omega arith) (omega arith)
    c.loop-i.invariant (c.copy_from_slice.ensures.after ∙ c.to_le_bytes.ensures)

pub returns : goal.returns
returns c =
    sym (take_all (4 * c.loop-i.i) c.loop-i.bytes (omega arith)) ∙ c.loop-i.invariant
    ∙ ap serialized (take_all c.loop-i.i c.args.words.now (omega arith))
