use Rattle.std.proofs.Common.{length}
use Rattle.sealing.proofs.Sealings.{opened-number}
use Rattle.ends.proofs.Judging.{judged-once}
use Rattle.ends.specs.Receiving.{meaning_of}
use Rattle.ends.specs.Window.{window_of}
use Rattle.ends.proofs.receiver.Receiver.receive.Goals as goal

pub unreachable-requires : goal.unreachable-requires
unreachable-requires g c =
    let m = meaning_of g.C.WideCipher g.J.KeyedHash c.args.self.now in
    let same = opened-number m c.args.header.now c.args.record.now (length c.args.work.now) (length c.args.text.now) c.in_ok-opened.opened c.in_ok-number.number c.in_ok-opened.ensures.answer c.in_ok-number.ensures in
    judged-once (window_of c.args.self.now.window) c.in_ok-opened.opened.number c.in_ok-number.number _ c.in-Err.field-0 same c.in_ok-judge.ensures c.in-Err.ensures.answer
