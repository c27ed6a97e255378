-- How a line is judged.
use Rattle.std.specs.Prelude.{ℕ, Bool, true, false, cond, List, [], ◌∷◌, length, take, Some, None, Ok, Err, Option, Result, option_map, ◌==◌, nat_le}
use Rattle.octets.specs.Strings.{same}
use Rattle.refusals.specs.declared.Refusal.{Refusal}
use Rattle.collating.specs.Answers.{Given, answering, placed}
use Rattle.collating.specs.Questions.{strings, wanted}
use Rattle.collating.specs.declared.outcome.Outcome.{Outcome}
use Rattle.collating.specs.declared.outcome.Outcome.TheVariants.{Bytes, Refused}
use Rattle.collating.specs.declared.question.Question.{Question}
use Rattle.collating.specs.declared.question.Vector.{Vector}
use Rattle.collating.specs.declared.report.Verdict.{Verdict}
use Rattle.collating.specs.declared.report.Verdict.TheVariants as verdict

-- whether each of the byte strings has at most 16,384 bytes
abbrev pub fit : List (List ℕ) → Bool
fit [] = true
fit (b ∷ bs) = cond (nat_le (length b) 16384) (fit bs) false

-- a question whose byte strings all fit
abbrev pub fitting : Question (List ℕ) → Option (Question (List ℕ))
fitting q = cond (fit (strings q)) (Some q) None

-- what the library gives to it
abbrev pub asking : Question (List ℕ) → Option Given
asking q = option_map answering (fitting q)

-- what the area of answers then holds
abbrev pub placed_in : Option Given → List ℕ → List ℕ
placed_in None area = area
placed_in (Some g) area = placed g area

-- what was given, with a refusal by its number
abbrev pub numbered : Given → Outcome (List ℕ)
numbered (Ok bytes) = Bytes bytes
numbered (Err f) = Refused f.reason.number

-- whether an outcome is the one that is expected: the bytes are the same, or the refusal has the number
abbrev pub agrees : Outcome (List ℕ) → Outcome (List ℕ) → Bool
agrees (Bytes bytes) (Bytes wanted) = same bytes wanted
agrees (Bytes bytes) (Refused n) = false
agrees (Refused n) (Bytes wanted) = false
agrees (Refused n) (Refused wanted) = n == wanted

-- `ok` exactly where it is
abbrev pub comparing : Given → Outcome (List ℕ) → Verdict ℕ
comparing g expected = cond (agrees (numbered g) expected) verdict.Same (verdict.Differs (wanted length (numbered g)))

-- what was given, where bytes stand at the front of an area
abbrev pub standing : Result ℕ Refusal → List ℕ → Given
standing (Ok n) area = Ok (take n area)
standing (Err f) area = Err f

abbrev pub judged : Option Given → Outcome (List ℕ) → Verdict ℕ
judged None o = verdict.Unread
judged (Some g) o = comparing g o

abbrev pub judging : Option (Vector (List ℕ)) → Verdict ℕ
judging None = verdict.Unread
judging (Some v) = judged (asking v.question) v.expected

abbrev pub left : Option (Vector (List ℕ)) → List ℕ → List ℕ
left None area = area
left (Some v) area = placed_in (asking v.question) area

-- an empty line, or one that begins with `#`
abbrev pub passed_over : List ℕ → Bool
passed_over [] = true
passed_over (b ∷ s) = b == 35
