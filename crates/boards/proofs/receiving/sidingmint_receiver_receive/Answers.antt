use Rattle.std.proofs.Common.{ap, ◌∙◌, subst}
use Rattle.octets.specs.Strings.{zeros}
use Rattle.sealing.specs.Calls.{text_of}
use Rattle.boards.specs.Lines.{line_of}
use Rattle.boards.specs.Plain.{written}
use Rattle.boards.specs.Receiving.{Leaves}
use Rattle.boards.specs.Told.{answered}
use Rattle.boards.proofs.receiving.sidingmint_receiver_receive.Goals as goal

pub returns : goal.returns
returns c =
    let came = c.receive.ensures.answer in
    record {
      answer = c.answer.ensures ∙ ap answered came;
      after = subst (λ r. Leaves r c.args.state.now c.receive.new.state) came c.receive.ensures.after;
      puts = c.receive.ensures.area ∙ ap (λ r. written (line_of c.args.pile c.args.hash_key.now c.args.expander_key.now c.args.header_key.now c.args.line.now) r (λ m. text_of m c.args.record.now) c.args.text.now) came;
      zeroed = c.drop-guard.ensures ∙ ap zeros c.receive.auto.work;
    }
