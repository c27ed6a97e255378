use Rattle.std.proofs.Common.{◌≡◌, ◌-◌, ◌++◌, length, take, drop, ap, ◌∙◌, rules}
use borrow.Rule.Slice.PartMut.{put_mid}
use Rattle.octets.specs.Strings.{be}
use Rattle.octets.proofs.Numbers.{length-be}
use Rattle.sealing.specs.Meaning.{meaning_of}
use Rattle.sealing.specs.Sealing.{tag}
use Rattle.sealing.proofs.Areas.{laid}
use Rattle.sealing.proofs.line.Line.write.Goals as goal

pub returns : goal.returns
returns g c =
    let number = c.copy_from_slice.new.self in
    let tagged = c.copy_from_slice-2.new.self in
    let text = c.copy_from_slice-3.new.self in
    let e1 : number ≡ be 8 c.args.number = c.copy_from_slice.ensures.after ∙ c.be_bytes-tweak.ensures in
    let e2 : tagged ≡ tag (meaning_of g.C.WideCipher g.J.KeyedHash c.args.self.now) c.args.header.now = c.copy_from_slice-2.ensures.after ∙ c.tag-tag.ensures in
    let e3 : text ≡ c.args.text.now = c.copy_from_slice-3.ensures.after in
    let area = number ++ drop 8 c.args.area.now in
    let body = tagged ++ drop 16 (take (length area - 8) (drop 8 area)) in
    let e4 : c.encipher.new.s ≡ g.C.WideCipher.enc c.args.self.now.cipher c.be_bytes-tweak.result (put_mid 16 (length body - 16) body text) = c.in_default.ensures.after in
    let e5 : c.be_bytes-tweak.result ≡ be 8 c.args.number = c.be_bytes-tweak.ensures in
    let q1 = laid 8 number c.encipher.new.s (drop 8 c.args.area.now) (ap length e1 ∙ length-be 8 c.args.number) in
    let q2 = laid 16 tagged text (drop 16 (take (length area - 8) (drop 8 area))) (search rules) in
    cc
