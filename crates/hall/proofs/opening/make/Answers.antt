use Rattle.std.proofs.Common.{rules, sym, ap, ◌∙◌}
use Rattle.hall.proofs.Making.{new-sender}
use Rattle.hall.proofs.opening.make.Goals as goal

pub returns-clause-begun : goal.returns-clause-begun
returns-clause-begun g c =
    let l = c.args.line in
    let made = new-sender l.cipher l.hash l.name.bytes c.args.first _ c.in_ok-sender.ensures in
    record {
      same = c.new-receiver.ensures.parts ∙ sym (ap (λ p. p.0) made);
      first = c.args.first;
      led = search rules;
    }
