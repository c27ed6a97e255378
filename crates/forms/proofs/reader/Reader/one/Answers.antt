use Rattle.std.proofs.Common.{sym, ◌∙◌}
use Rattle.forms.proofs.Rests.{one-empty, one_none, one-some, handed}
use Rattle.forms.proofs.reader.Reader.one.Goals as goal

pub returns-in_err-first : goal.returns-in_err-first
returns-in_err-first g c of is = handed _ _ _ _ _ c.from_residual.ensures.1 (one-empty of c.args.self.now.rest.now (rw c.in_err-first.ensures.ok_part at c.split_first.ensures.cases))

pub returns-in_err-value : goal.returns-in_err-value
returns-in_err-value g c of is =
    handed _ _ _ _ _ c.from_residual-in_err-value.ensures.1
    (one_none of c.args.self.now.rest.now c.in_ok-first.rest.now c.in_ok-first.first.now (rw c.in_ok-first.ensures.ok_part at c.split_first.ensures.cases) (sym c.in_err-value.ensures.ok_part ∙ is _ _ c.value.ensures))

pub returns : goal.returns
returns g c of is =
    one-some of c.args.self.now.rest.now c.in_ok-first.rest.now c.in_ok-first.first.now (rw c.in_ok-first.ensures.ok_part at c.split_first.ensures.cases) c.in_ok-value.value (sym c.in_ok-value.ensures.ok_part ∙ is _ _ c.value.ensures)
