use Rattle.std.proofs.Common.{ℕ, length, Result, ap, ◌∙◌}
use Rattle.forms.specs.Said.{ends_of}
use Rattle.forms.specs.Scans.{limited}
use Rattle.forms.specs.Spelling.{Ends}
use Rattle.forms.proofs.Reading.{within, finished, within-limit, opening-read}
use Rattle.forms.proofs.Words.{lawful-ends}
use Rattle.forms.proofs.opening.read_opening.Goals as goal

pub finish-requires : goal.finish-requires
finish-requires c = within lawful-ends ends_of _ _ _ c.ends-form.ensures

pub returns : goal.returns
returns c =
    let s = c.args.line.now in
    let done = opening-read s _ (within-limit ends_of (length s) c.finish.result c.limited.result c.limited.ensures ∙ ap (λ (r : Result Ends ℕ). limited (length s) r) (finished ends_of (length s) c.ends-form.result _ c.finish.result _ c.finish.ensures c.ends-form.ensures)) in
    record { reads = done.reads; only = done.only }
