use Rattle.std.proofs.Common.{sym, ◌∙◌, length-set}
use Rattle.forms.proofs.Rests.{handed}
use Rattle.forms.proofs.Turns.{name-more, name-stuck, name-all}
use Rattle.forms.proofs.reader.Reader.name.Goals as goal

pub loop-b-preserved : goal.loop-b-preserved
loop-b-preserved c = (length-set _ _ _ ∙ c.loop-b.invariant.0, c.loop-b.invariant.1 ∙ name-more _ _ _ _ _ c.loop-b-test.true c.loop-b.invariant.0 c.in_ok-b.ensures)

pub returns-in_err-b : goal.returns-in_err-b
returns-in_err-b c = handed _ _ _ _ _ c.from_residual.ensures.1 (name-stuck _ _ _ _ c.loop-b-test.true c.in_err-b.ensures ∙ sym c.loop-b.invariant.1)

pub returns : goal.returns
returns c = sym (c.loop-b.invariant.1 ∙ name-all _ _ _ c.loop-b-test.false c.loop-b.invariant.0)
