-- Plain seal and plain open of a board.
use Rattle.std.specs.Prelude.{◌≡◌, ℕ, List, length, Ok, Err, Result}
use Rattle.octets.specs.Strings.{zeros}
use Rattle.sealing.specs.Calls.{sealing, opening, placed, text_of}
use Rattle.sealing.specs.Meaning.{Meaning}
use Rattle.sealing.specs.Refusals.{told}
use Rattle.sealing.specs.Sealing.{record_of}
use Rattle.sealing.specs.declared.fault.SealingFault.{SealingFault}
use Rattle.sealing.specs.declared.plain_open.Opened.{Opened}
use Rattle.boards.specs.Done.{done}
use Rattle.boards.specs.Told.{answered}
use Rattle.boards.specs.declared.answer.Answer.{Answer}
use Rattle.boards.specs.declared.answer.Done.{Done}
use Rattle.boards.specs.declared.fault.Fault.{Fault}
use Rattle.boards.specs.declared.fault.Fault.TheVariants.{Refused}

-- what follows where there is a line, or an end, and else why there is none
abbrev pub on : {S T : Type 0} → Result S Fault → (S → Result T Fault) → Result T Fault
on (Ok m) next = next m
on (Err f) next = Err f

-- what was written for the line stands at the front, and the rest stays; a refusal leaves all
abbrev pub written : Result Meaning Fault → Result Done Fault → (Meaning → List ℕ) → List ℕ → List ℕ
written (Ok m) r bytes area = placed r area (bytes m)
written (Err f) r bytes area = area

-- a record of n, with its length
abbrev pub sealed_as : ℕ → Result ℕ SealingFault → Result Done Fault
sealed_as n (Ok k) = Ok (record { number = n; length = k })
sealed_as n (Err f) = Err (Refused (told f))

-- an opening, as it is answered
abbrev pub opened_as : Result Opened SealingFault → Result Done Fault
opened_as (Ok o) = Ok (done o)
opened_as (Err f) = Err (Refused (told f))

abbrev pub sealed : Result Meaning Fault → ℕ → List ℕ → List ℕ → ℕ → Result Done Fault
sealed l n header text area = on l (λ m. sealed_as n (sealing m n (length header) (length text) area))

abbrev pub opened : Result Meaning Fault → List ℕ → List ℕ → ℕ → ℕ → Result Done Fault
opened l header r work text = on l (λ m. opened_as (opening m header r work text))

-- plain seal: what is answered, and what the area holds afterwards
pub record Seals (l : Result Meaning Fault) (n : ℕ) (header text area : List ℕ) (a : Answer) (area' : List ℕ) : Type 0 where
  pub answer : a ≡ answered (sealed l n header text (length area))
  pub puts : area' ≡ written l (sealed l n header text (length area)) (λ m. record_of m header n text) area

-- plain open: what is answered, and what the text area and the work area hold afterwards
pub record Opens (l : Result Meaning Fault) (header r work text : List ℕ) (a : Answer) (work' text' : List ℕ) : Type 0 where
  pub answer : a ≡ answered (opened l header r (length work) (length text))
  pub puts : text' ≡ written l (opened l header r (length work) (length text)) (λ m. text_of m r) text
  pub zeroed : work' ≡ zeros (length work)
