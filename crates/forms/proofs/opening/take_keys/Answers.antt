use Rattle.std.proofs.Common.{sym, ◌∙◌}
use Rattle.forms.specs.Scans.{keys}
use Rattle.forms.proofs.Rests.{bind_ok, bind-err, handed}
use Rattle.forms.proofs.Words.{space, bracket}
use Rattle.forms.proofs.opening.take_keys.Goals as goal

pub hex-requires : goal.hex-requires
hex-requires c = space

pub hex-requires-2 : goal.hex-requires-2
hex-requires-2 c = space

pub hex-requires-3 : goal.hex-requires-3
hex-requires-3 c = bracket

pub returns-in_err-literal : goal.returns-in_err-literal
unfolding keys
returns-in_err-literal c = handed _ _ _ _ _ c.from_residual.ensures.1 (bind-err _ _ _ _ c.in_err-literal.ensures)

pub returns-in_err-hash : goal.returns-in_err-hash
unfolding keys
returns-in_err-hash c = handed _ _ _ _ _ c.from_residual-in_err-hash.ensures.1 (bind-err _ _ _ _ c.in_err-hash.ensures ∙ sym (bind_ok _ _ _ _ _ c.in_ok-literal.ensures))

pub returns-in_err-expander : goal.returns-in_err-expander
unfolding keys
returns-in_err-expander c =
    handed _ _ _ _ _ c.from_residual-in_err-expander.ensures.1
    (bind-err _ _ _ _ c.in_err-expander.ensures ∙ sym (bind_ok _ _ _ _ _ c.in_ok-literal.ensures ∙ bind_ok _ _ _ _ _ c.in_ok-hash.ensures))

pub returns-in_err-header : goal.returns-in_err-header
unfolding keys
returns-in_err-header c =
    handed _ _ _ _ _ c.from_residual-in_err-header.ensures.1
    (bind-err _ _ _ _ c.in_err-header.ensures ∙ sym (bind_ok _ _ _ _ _ c.in_ok-literal.ensures ∙ bind_ok _ _ _ _ _ c.in_ok-hash.ensures ∙ bind_ok _ _ _ _ _ c.in_ok-expander.ensures))

pub returns : goal.returns
unfolding keys
returns c = sym (bind_ok _ _ _ _ _ c.in_ok-literal.ensures ∙ bind_ok _ _ _ _ _ c.in_ok-hash.ensures ∙ bind_ok _ _ _ _ _ c.in_ok-expander.ensures ∙ bind_ok _ _ _ _ _ c.in_ok-header.ensures)
