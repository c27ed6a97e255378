use Rattle.std.proofs.Common.{List, ℕ, sym, ap, ◌∙◌}
use Rattle.std.proofs.lemmas.List.{drop_all}
use Rattle.forms.specs.Scans.{literal}
use Rattle.forms.proofs.Rests.{handed}
use Rattle.forms.proofs.Turns.{literal-more, literal-stuck}
use Rattle.forms.proofs.reader.Reader.literal.Goals as goal

pub loop-b-preserved : goal.loop-b-preserved
loop-b-preserved c = c.loop-b.invariant ∙ literal-more _ _ _ _ c.loop-b-test.true c.in_ok-eat.ensures

pub returns-in_err-eat : goal.returns-in_err-eat
returns-in_err-eat c = handed _ _ _ _ _ c.from_residual.ensures.1 (literal-stuck _ _ _ _ c.loop-b-test.true c.in_err-eat.ensures ∙ sym c.loop-b.invariant)

pub returns : goal.returns
unfolding literal
returns c = sym (c.loop-b.invariant ∙ ap (λ (l : List ℕ). literal l c.loop-b.self.rest.now) (drop_all _ _ c.loop-b-test.false))
