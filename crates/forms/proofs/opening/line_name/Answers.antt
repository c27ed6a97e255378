use Rattle.std.proofs.Common.{sym, ◌∙◌}
use Rattle.forms.specs.Scans.{line_name}
use Rattle.forms.proofs.Rests.{bind_ok, bind-err, handed}
use Rattle.forms.proofs.opening.line_name.Goals as goal

pub returns-in_err-literal : goal.returns-in_err-literal
unfolding line_name
returns-in_err-literal c = handed _ _ _ _ _ c.from_residual.ensures.1 (bind-err _ _ _ _ c.in_err-literal.ensures)

pub returns-in_err-name : goal.returns-in_err-name
unfolding line_name
returns-in_err-name c = handed _ _ _ _ _ c.from_residual-in_err-name.ensures.1 (bind-err _ _ _ _ c.in_err-name.ensures ∙ sym (bind_ok _ _ _ _ _ c.in_ok-literal.ensures))

pub returns-in_err-literal-2 : goal.returns-in_err-literal-2
unfolding line_name
returns-in_err-literal-2 c =
    handed _ _ _ _ _ c.from_residual-in_err-literal-2.ensures.1
    (bind-err _ _ _ _ c.in_err-literal-2.ensures ∙ sym (bind_ok _ _ _ _ _ c.in_ok-literal.ensures ∙ bind_ok _ _ _ _ _ c.in_ok-name.ensures))

pub returns : goal.returns
unfolding line_name
returns c = sym (bind_ok _ _ _ _ _ c.in_ok-literal.ensures ∙ bind_ok _ _ _ _ _ c.in_ok-name.ensures ∙ bind_ok _ _ _ _ _ c.in_ok-literal-2.ensures)
