use Rattle.std.proofs.Common.{sym, ◌∙◌}
use Rattle.forms.specs.Scans.{strings}
use Rattle.forms.proofs.Rests.{bind_ok, bind-err, handed}
use Rattle.forms.proofs.Words.{bracket}
use Rattle.forms.proofs.command.strings.Goals as goal

pub hex-requires : goal.hex-requires
hex-requires c = bracket

pub hex-requires-2 : goal.hex-requires-2
hex-requires-2 c = bracket

pub returns-in_err-literal : goal.returns-in_err-literal
unfolding strings
returns-in_err-literal c = handed _ _ _ _ _ c.from_residual.ensures.1 (bind-err _ _ _ _ c.in_err-literal.ensures)

pub returns-in_err-first : goal.returns-in_err-first
unfolding strings
returns-in_err-first c = handed _ _ _ _ _ c.from_residual-in_err-first.ensures.1 (bind-err _ _ _ _ c.in_err-first.ensures ∙ sym (bind_ok _ _ _ _ _ c.in_ok-literal.ensures))

pub returns-in_err-literal-2 : goal.returns-in_err-literal-2
unfolding strings
returns-in_err-literal-2 c =
    handed _ _ _ _ _ c.from_residual-in_err-literal-2.ensures.1
    (bind-err _ _ _ _ c.in_err-literal-2.ensures ∙ sym (bind_ok _ _ _ _ _ c.in_ok-literal.ensures ∙ bind_ok _ _ _ _ _ c.in_ok-first.ensures))

pub returns-in_err-second : goal.returns-in_err-second
unfolding strings
returns-in_err-second c =
    handed _ _ _ _ _ c.from_residual-in_err-second.ensures.1
    (bind-err _ _ _ _ c.in_err-second.ensures ∙ sym (bind_ok _ _ _ _ _ c.in_ok-literal.ensures ∙ bind_ok _ _ _ _ _ c.in_ok-first.ensures ∙ bind_ok _ _ _ _ _ c.in_ok-literal-2.ensures))

pub returns-in_err-literal-3 : goal.returns-in_err-literal-3
unfolding strings
returns-in_err-literal-3 c =
    handed _ _ _ _ _ c.from_residual-in_err-literal-3.ensures.1
    (bind-err _ _ _ _ c.in_err-literal-3.ensures ∙ sym (bind_ok _ _ _ _ _ c.in_ok-literal.ensures ∙ bind_ok _ _ _ _ _ c.in_ok-first.ensures ∙ bind_ok _ _ _ _ _ c.in_ok-literal-2.ensures ∙ bind_ok _ _ _ _ _ c.in_ok-second.ensures))

pub returns : goal.returns
unfolding strings
returns c =
    sym (bind_ok _ _ _ _ _ c.in_ok-literal.ensures ∙ bind_ok _ _ _ _ _ c.in_ok-first.ensures ∙ bind_ok _ _ _ _ _ c.in_ok-literal-2.ensures ∙ bind_ok _ _ _ _ _ c.in_ok-second.ensures ∙ bind_ok _ _ _ _ _ c.in_ok-literal-3.ensures)
