use Rattle.std.proofs.Common.{sym, refl, ◌∙◌, arith}
use Rattle.forms.specs.Scans.{tenth}
use Rattle.forms.proofs.Rests.{handed, decimal-small, went, kept}
use Rattle.forms.proofs.Turns.{number-first, number-none, number-closed, number_more, number-stuck, number-full, ten-more, small-enough}
use Rattle.forms.proofs.reader.Reader.number.Goals as goal

pub returns-in_err-value : goal.returns-in_err-value
returns-in_err-value c = handed _ _ _ _ _ c.from_residual.ensures.1 (number-none _ _ (c.in_err-value.ensures tenth (λ b o e. e)))

pub loop-count-init : goal.loop-count-init
loop-count-init c = (omega (arith, decimal-small _ _ _ (c.in_ok-value.ensures tenth (λ b o e. e))), refl)

pub returns-then-is_ok : goal.returns-then-is_ok
returns-then-is_ok c = number-closed _ _ _ _ (went _ _ _ (sym c.if-is_ok.ensures.value) c.eat.ensures) ∙ sym (number-first _ _ _ (c.in_ok-value.ensures tenth (λ b o e. e)) ∙ c.loop-count.invariant.1)

pub overflow_mul-value : goal.overflow_mul-value
overflow_mul-value c = omega (arith, small-enough c.loop-count._count c.loop-count.value (omega (arith, c.loop-count-test.true)) c.loop-count.invariant.0)

pub returns-in_err-value-2 : goal.returns-in_err-value-2
returns-in_err-value-2 c =
    handed _ _ _ _ _ c.from_residual-in_err-value-2.ensures.1
    (number-stuck _ _ _ _ (kept _ _ _ (sym c.if-is_ok.ensures.value) c.eat.ensures) _ (c.in_err-value-2.ensures tenth (λ b o e. e)) ∙ sym (number-first _ _ _ (c.in_ok-value.ensures tenth (λ b o e. e)) ∙ c.loop-count.invariant.1))

pub overflow_add-value : goal.overflow_add-value
overflow_add-value c =
    omega (arith, small-enough c.loop-count._count c.loop-count.value (omega (arith, c.loop-count-test.true)) c.loop-count.invariant.0, decimal-small _ _ _ (c.in_ok-value-2.ensures tenth (λ b o e. e)))

pub loop-count-preserved : goal.loop-count-preserved
loop-count-preserved c =
    let d = decimal-small _ _ _ (c.in_ok-value-2.ensures tenth (λ b o e. e)) in (
      omega (arith, ten-more c.loop-count._count, d, c.loop-count.invariant.0),
      c.loop-count.invariant.1 ∙ number_more _ _ _ _ (kept _ _ _ (sym c.if-is_ok.ensures.value) c.eat.ensures) _ _ _ (omega (arith, c.loop-count-test.true)) (c.in_ok-value-2.ensures tenth (λ b o e. e)),
    )

pub returns-in_err-eat : goal.returns-in_err-eat
returns-in_err-eat c =
    handed _ _ _ _ _ c.from_residual-in_err-eat.ensures.1 (number-full _ _ _ _ c.in_err-eat.ensures (omega (arith, c.loop-count-test.false)) ∙ sym (number-first _ _ _ (c.in_ok-value.ensures tenth (λ b o e. e)) ∙ c.loop-count.invariant.1))

pub returns : goal.returns
returns c = number-closed _ _ _ _ c.in_ok-eat.ensures ∙ sym (number-first _ _ _ (c.in_ok-value.ensures tenth (λ b o e. e)) ∙ c.loop-count.invariant.1)
