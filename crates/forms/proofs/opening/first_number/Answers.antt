use Rattle.std.proofs.Common.{sym, ◌∙◌}
use Rattle.forms.specs.Scans.{first_number}
use Rattle.forms.proofs.Rests.{bind_ok, bind-err, handed}
use Rattle.forms.proofs.opening.first_number.Goals as goal

pub returns-in_err-literal : goal.returns-in_err-literal
unfolding first_number
returns-in_err-literal c = handed _ _ _ _ _ c.from_residual.ensures.1 (bind-err _ _ _ _ c.in_err-literal.ensures)

pub returns-in_err-number : goal.returns-in_err-number
unfolding first_number
returns-in_err-number c = handed _ _ _ _ _ c.from_residual-in_err-number.ensures.1 (bind-err _ _ _ _ c.in_err-number.ensures ∙ sym (bind_ok _ _ _ _ _ c.in_ok-literal.ensures))

pub returns-in_err-literal-2 : goal.returns-in_err-literal-2
unfolding first_number
returns-in_err-literal-2 c =
    handed _ _ _ _ _ c.from_residual-in_err-literal-2.ensures.1
    (bind-err _ _ _ _ c.in_err-literal-2.ensures ∙ sym (bind_ok _ _ _ _ _ c.in_ok-literal.ensures ∙ bind_ok _ _ _ _ _ c.in_ok-number.ensures))

pub returns : goal.returns
unfolding first_number
returns c = sym (bind_ok _ _ _ _ _ c.in_ok-literal.ensures ∙ bind_ok _ _ _ _ _ c.in_ok-number.ensures ∙ bind_ok _ _ _ _ _ c.in_ok-literal-2.ensures)
