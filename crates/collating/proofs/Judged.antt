-- What the library gave, beside what is expected.
use Rattle.std.proofs.Common.{◌≡◌, ℕ, ◌≤◌, Bool, true, false, leb, List, length, drop, Some, Ok, Err, Option, Result, refl, ap, ◌∙◌, ap₂, option_map, arith}
use Rattle.std.proofs.lemmas.List.{take_at}
use Rattle.std.proofs.lemmas.Bool.{leb-false}
use Rattle.octets.specs.Strings.{same}
use Rattle.octets.proofs.Same.{same_is}
use Rattle.refusals.specs.declared.Refusal.{Refusal}
use Rattle.collating.specs.Answers.{Given, answering, counted, placed}
use Rattle.collating.specs.Judging.{standing, comparing, judged}
use Rattle.collating.specs.declared.outcome.Outcome.{Outcome}
use Rattle.collating.specs.declared.question.Question.{Question}
use Rattle.collating.specs.declared.report.Verdict.{Verdict}

-- a byte string that is longer than any answer is no answer
pub longer : (bytes w : List ℕ) → length bytes ≤ 4120 → leb (length w) 16384 ≡ false → false ≡ same bytes w
longer bytes w short long = at (same bytes w) refl
  where
    at : (b : Bool) → same bytes w ≡ b → false ≡ b
    at false e = refl
    at true e = absurd (let i = ap length (same_is bytes w e) in let l = leb-false (length w) 16384 long in omega arith)

-- what was given stands in the area
pub stands : (g : Given) (area : List ℕ) → standing (counted g) (placed g area) ≡ g
stands (Err f) area = refl
stands (Ok bytes) area = ap Ok (take_at bytes (drop (length bytes) area) (length bytes) refl)

pub compared : (q : Question (List ℕ)) (o : Option (Question (List ℕ))) (got : Result ℕ Refusal) (area area' : List ℕ) (w : Outcome (List ℕ)) (r : Verdict ℕ)
    → Some q ≡ o → got ≡ counted (answering q) → area' ≡ placed (answering q) area → r ≡ comparing (standing got area') w → r ≡ judged (option_map answering o) w
compared q o got area area' w r fits told put is =
    is ∙ ap (λ g. comparing g w) (ap₂ standing told put ∙ stands (answering q) area) ∙ ap (λ p. judged (option_map answering p) w) fits
