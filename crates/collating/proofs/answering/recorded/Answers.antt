use Rattle.std.proofs.Common.{length, refl}
use Rattle.sealing.specs.Meaning.{meaning_of}
use Rattle.sealing.specs.Sealing.{record_of}
use Rattle.collating.proofs.Recording.{recorded}
use Rattle.collating.proofs.answering.recorded.Goals as goal

pub returns-clause-answer : goal.returns-clause-answer
returns-clause-answer g c =
    let k = c.in_ok-seal.field-0 in
    let s = c.args.sealing.now in
    let m = meaning_of g.C.WideCipher g.J.KeyedHash c.args.line.now in
    let is = (c.in_ok-seal.ensures.sealed k refl).is in
    recorded m s.number (length s.header.now) (length s.text.now) 4120 k (record_of m s.header.now s.number s.text.now) c.args.area.now c.seal.new.area c.in_ok-seal.ensures.answer c.told-area c.seal.auto.area is
