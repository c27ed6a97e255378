use Rattle.std.proofs.Common.{sym, ◌∙◌, arith}
use Rattle.forms.specs.Hex.{nibbled}
use Rattle.forms.specs.Scans.{byte}
use Rattle.forms.proofs.Rests.{bind_ok, bind-err, handed, digit-small}
use Rattle.forms.proofs.reader.Reader.byte.Goals as goal

pub returns-in_err-high : goal.returns-in_err-high
unfolding byte
returns-in_err-high c = handed _ _ _ _ _ c.from_residual.ensures.1 (bind-err _ _ _ _ (c.in_err-high.ensures nibbled (λ b o e. e)))

pub returns-in_err-low : goal.returns-in_err-low
unfolding byte
returns-in_err-low c = handed _ _ _ _ _ c.from_residual-in_err-low.ensures.1 (bind-err _ _ _ _ (c.in_err-low.ensures nibbled (λ b o e. e)) ∙ sym (bind_ok _ _ _ _ _ (c.in_ok-high.ensures nibbled (λ b o e. e))))

pub overflow_mul-result : goal.overflow_mul-result
overflow_mul-result c = omega (arith, digit-small _ _ _ (c.in_ok-high.ensures nibbled (λ b o e. e)))

pub overflow_add-result : goal.overflow_add-result
overflow_add-result c = omega (arith, digit-small _ _ _ (c.in_ok-high.ensures nibbled (λ b o e. e)), digit-small _ _ _ (c.in_ok-low.ensures nibbled (λ b o e. e)))

pub returns : goal.returns
unfolding byte
returns c = sym (bind_ok _ _ _ _ _ (c.in_ok-high.ensures nibbled (λ b o e. e)) ∙ bind_ok _ _ _ _ _ (c.in_ok-low.ensures nibbled (λ b o e. e)))
