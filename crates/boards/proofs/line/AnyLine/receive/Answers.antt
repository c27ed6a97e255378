use Rattle.std.proofs.Common.{length, sym, ap, ◌∙◌}
use Rattle.sealing.specs.Calls.{placed, text_of}
use Rattle.boards.specs.Lines.{meant_by}
use Rattle.boards.specs.Receiving.{received_by}
use Rattle.boards.proofs.line.AnyLine.receive.Goals as goal

pub returns-in-A : goal.returns-in-A
returns-in-A c =
    let e = sym (ap meant_by c.in-A.is) in
    record {
      answer = c.receive.ensures.answer ∙ ap (λ m. received_by m c.args.state.now c.args.header.now c.args.record.now (length c.args.work.now) (length c.args.text.now)) e;
      after = c.receive.ensures.after;
      area = c.receive.ensures.area ∙ ap (λ m. placed c.receive.result c.args.text.now (text_of m c.args.record.now)) e;
    }

pub returns-in-B : goal.returns-in-B
returns-in-B c =
    let e = sym (ap meant_by c.in-B.is) in
    record {
      answer = c.receive-in-B.ensures.answer ∙ ap (λ m. received_by m c.args.state.now c.args.header.now c.args.record.now (length c.args.work.now) (length c.args.text.now)) e;
      after = c.receive-in-B.ensures.after;
      area = c.receive-in-B.ensures.area ∙ ap (λ m. placed c.receive-in-B.result c.args.text.now (text_of m c.args.record.now)) e;
    }
