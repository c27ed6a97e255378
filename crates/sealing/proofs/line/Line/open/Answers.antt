use Rattle.std.proofs.Common.{◌≡◌, ◌-◌, length, take, ap, ◌∙◌, ap₂, arith, rules}
use Rattle.octets.specs.Strings.{same}
use Rattle.sealing.proofs.Opening.{tagged_ok, copied-out}
use Rattle.sealing.proofs.Sealings.{exactly}
use Rattle.sealing.proofs.line.Line.open.Goals as goal

pub returns-in_err-number-clause-exactly : goal.returns-in_err-number-clause-exactly
returns-in_err-number-clause-exactly g c =
    exactly _ c.lawful.ensures c.args.header.now c.args.record.now (λ k. (c.type_inv.header k).fits) (λ k. (c.type_inv.record k).fits) (length c.args.work.now) c.args.text.now c.args.text.now c.from_residual.result (search rules) (search rules)

pub returns-clause-answer : goal.returns-clause-answer
returns-clause-answer g c =
    let size : length c.args.record.now - 8 ≡ length c.decipher.new.body = omega arith in
    tagged_ok _ c.args.record.now _ c.in_ok-number.number _ c.in_ok-number.ensures (c.if-not-equal.ensures ∙ ap₂ same (ap (take 16) c.decipher.ensures) c.tag-tag.ensures) (omega arith)

pub returns-clause-after : goal.returns-clause-after
returns-clause-after g c =
    let told = c.decipher.ensures in
    let size : length c.args.record.now - 8 ≡ length c.decipher.new.body = omega arith in
    copied-out _ c.decipher.new.body c.copy_from_slice.new.self c.args.text.now (length c.args.record.now - 8) told (size ∙ ap length told) c.copy_from_slice.ensures.after

pub returns-clause-exactly : goal.returns-clause-exactly
returns-clause-exactly g c =
    exactly _ c.lawful.ensures c.args.header.now c.args.record.now (λ k. (c.type_inv.header k).fits) (λ k. (c.type_inv.record k).fits) (length c.args.work.now) c.args.text.now _ _ (returns-clause-answer g c) (returns-clause-after g c)
