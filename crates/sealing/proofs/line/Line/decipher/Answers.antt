use Rattle.std.proofs.Common.{◌≡◌, ◌-◌, length, take, drop, ◌∙◌, ap₂}
use Rattle.std.proofs.lemmas.List.{take_rest}
use Rattle.sealing.proofs.line.Line.decipher.Goals as goal

pub returns : goal.returns
returns g c =
    let dec = g.C.WideCipher.dec c.args.self.now.cipher in
    let r = c.args.record.now in
    let e1 : c.copy_from_slice.new.self ≡ take (length r - 8) (drop 8 r) = c.copy_from_slice.ensures.after in
    c.in_default.ensures.after ∙ ap₂ dec c.front.ensures (e1 ∙ take_rest r 8)
