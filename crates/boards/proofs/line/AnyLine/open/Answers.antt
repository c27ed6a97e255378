use Rattle.std.proofs.Common.{length, sym, ap, ◌∙◌}
use Rattle.sealing.specs.Calls.{opening, placed, text_of}
use Rattle.boards.specs.Lines.{meant_by}
use Rattle.boards.proofs.line.AnyLine.open.Goals as goal

pub returns-in-A : goal.returns-in-A
returns-in-A c =
    let e = sym (ap meant_by c.in-A.is) in
    record {
      answer = c.open.ensures.answer ∙ ap (λ m. opening m c.args.header.now c.args.record.now (length c.args.work.now) (length c.args.text.now)) e;
      after = c.open.ensures.after ∙ ap (λ m. placed c.open.result c.args.text.now (text_of m c.args.record.now)) e;
    }

pub returns-in-B : goal.returns-in-B
returns-in-B c =
    let e = sym (ap meant_by c.in-B.is) in
    record {
      answer = c.open-in-B.ensures.answer ∙ ap (λ m. opening m c.args.header.now c.args.record.now (length c.args.work.now) (length c.args.text.now)) e;
      after = c.open-in-B.ensures.after ∙ ap (λ m. placed c.open-in-B.result c.args.text.now (text_of m c.args.record.now)) e;
    }
