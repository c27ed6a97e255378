-- What is told of a line, and how it is written.
use Rattle.std.specs.Prelude.{ℕ, List, ◌++◌, codes, decimal}
use Rattle.std.specs.Borrow.{Bor}
use Rattle.forms.specs.Hex.{hexed}
use Rattle.collating.specs.Questions.{wanted}
use Rattle.collating.specs.declared.outcome.Outcome.{Outcome}
use Rattle.collating.specs.declared.outcome.Outcome.TheVariants as outcome
use Rattle.collating.specs.declared.report.Report.{Report}
use Rattle.collating.specs.declared.report.Verdict.{Verdict}
use Rattle.collating.specs.declared.report.Verdict.TheVariants.{Same, Differs, Unread}

-- the same verdict with other byte strings
abbrev pub judged_with : {S T : Type 0} → (S → T) → Verdict S → Verdict T
judged_with f Same = Same
judged_with f (Differs got) = Differs (wanted f got)
judged_with f Unread = Unread

-- the bytes in hexadecimal, or `!` and the number of the refusal
abbrev pub written : Outcome (Bor (List ℕ)) → List ℕ
written (outcome.Bytes bytes) = hexed bytes.now
written (outcome.Refused n) = codes "!" ++ decimal n

abbrev pub told : ℕ → Verdict (Bor (List ℕ)) → List ℕ
told line Same = codes "ok " ++ decimal line
told line (Differs got) = codes "differs " ++ (decimal line ++ (codes " " ++ written got))
told line Unread = codes "unread " ++ decimal line

abbrev pub spelled : Report → List ℕ
spelled r = told r.line r.verdict
