use Rattle.std.proofs.Common.{sym, ◌∙◌}
use Rattle.forms.specs.Scans.{ends, piled}
use Rattle.forms.proofs.Rests.{bind_ok, bind-err, handed}
use Rattle.forms.proofs.opening.ends.Goals as goal

pub returns-in_err-literal : goal.returns-in_err-literal
unfolding ends
returns-in_err-literal c = handed _ _ _ _ _ c.from_residual.ensures.1 (bind-err _ _ _ _ c.in_err-literal.ensures)

pub returns-in_err-pile : goal.returns-in_err-pile
unfolding ends
returns-in_err-pile c = handed _ _ _ _ _ c.from_residual-in_err-pile.ensures.1 (bind-err _ _ _ _ (c.in_err-pile.ensures piled (λ b o e. e)) ∙ sym (bind_ok _ _ _ _ _ c.in_ok-literal.ensures))

pub returns-in_err-keys : goal.returns-in_err-keys
unfolding ends
returns-in_err-keys c =
    handed _ _ _ _ _ c.from_residual-in_err-keys.ensures.1
    (bind-err _ _ _ _ c.in_err-keys.ensures ∙ sym (bind_ok _ _ _ _ _ c.in_ok-literal.ensures ∙ bind_ok _ _ _ _ _ (c.in_ok-pile.ensures piled (λ b o e. e))))

pub returns-in_err-line : goal.returns-in_err-line
unfolding ends
returns-in_err-line c =
    handed _ _ _ _ _ c.from_residual-in_err-line.ensures.1
    (bind-err _ _ _ _ c.in_err-line.ensures ∙ sym (bind_ok _ _ _ _ _ c.in_ok-literal.ensures ∙ bind_ok _ _ _ _ _ (c.in_ok-pile.ensures piled (λ b o e. e)) ∙ bind_ok _ _ _ _ _ c.in_ok-keys.ensures))

pub returns-in_err-first : goal.returns-in_err-first
unfolding ends
returns-in_err-first c =
    handed _ _ _ _ _ c.from_residual-in_err-first.ensures.1
    (bind-err _ _ _ _ c.in_err-first.ensures ∙ sym (bind_ok _ _ _ _ _ c.in_ok-literal.ensures ∙ bind_ok _ _ _ _ _ (c.in_ok-pile.ensures piled (λ b o e. e)) ∙ bind_ok _ _ _ _ _ c.in_ok-keys.ensures ∙ bind_ok _ _ _ _ _ c.in_ok-line.ensures))

pub returns : goal.returns
unfolding ends
returns c =
    sym (bind_ok _ _ _ _ _ c.in_ok-literal.ensures ∙ bind_ok _ _ _ _ _ (c.in_ok-pile.ensures piled (λ b o e. e)) ∙ bind_ok _ _ _ _ _ c.in_ok-keys.ensures ∙ bind_ok _ _ _ _ _ c.in_ok-line.ensures ∙ bind_ok _ _ _ _ _ c.in_ok-first.ensures)
