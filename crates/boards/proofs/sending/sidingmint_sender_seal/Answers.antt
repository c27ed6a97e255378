use Rattle.std.proofs.Common.{ap, ◌∙◌, subst}
use Rattle.sealing.specs.Sealing.{record_of}
use Rattle.boards.specs.Lines.{line_of}
use Rattle.boards.specs.Plain.{written}
use Rattle.boards.specs.Sending.{leaves, Lasts, after_spent}
use Rattle.boards.specs.Told.{answered}
use Rattle.boards.proofs.sending.sidingmint_sender_seal.Goals as goal

pub returns : goal.returns
returns c =
    let came = c.seal_with.ensures.answer in
    let s = c.args.state.now in
    record {
      sends = record {
        answer = c.answer.ensures ∙ ap answered came;
        after = c.seal_with.ensures.after ∙ ap (λ r. leaves r (after_spent s) s) came;
        lasting = subst (λ r. Lasts r c.seal_with.new.state) came c.seal_with.ensures.lasting;
      };
      puts = c.seal_with.ensures.area ∙ ap (λ r. written (line_of c.args.pile c.args.hash_key.now c.args.expander_key.now c.args.header_key.now c.args.line.now) r (λ m. record_of m c.args.header.now c.args.ticket c.args.text.now) c.args.area.now) came;
    }
