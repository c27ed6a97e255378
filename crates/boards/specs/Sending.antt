-- The calls of a sending end, over the numbers that a board keeps of it.
use Rattle.std.specs.Prelude.{◌≡◌, ℕ, true, cond, List, length, Some, None, Ok, Err, Option, Result, ◌==◌}
use Rattle.sealing.specs.Meaning.{Meaning}
use Rattle.sealing.specs.Sealing.{record_of}
use Rattle.ends.specs.Refusals.{told}
use Rattle.ends.specs.Sending.{possible, starting, ticket_of, drawing, after_draw, giving_up, sealing_with}
use Rattle.ends.specs.declared.counter.Counts.{Counts}
use Rattle.ends.specs.declared.fault.SenderFault.{SenderFault}
use Rattle.ends.specs.declared.ticket.Returned.{Returned}
use Rattle.ends.specs.declared.ticket.Ticket.{Ticket}
use Rattle.boards.specs.Plain.{on, written}
use Rattle.boards.specs.Told.{answered}
use Rattle.boards.specs.declared.answer.Answer.{Answer}
use Rattle.boards.specs.declared.answer.Done.{Done}
use Rattle.boards.specs.declared.fault.Fault.{Fault}
use Rattle.boards.specs.declared.fault.Fault.TheVariants.{State, Refused}
use Rattle.boards.specs.declared.state.SenderState.{SenderState}

-- 0 stands for no number outstanding
abbrev pub outstanding_of : ℕ → Option ℕ
outstanding_of n = cond (n == 0) None (Some n)

abbrev pub or_zero : Option ℕ → ℕ
or_zero None = 0
or_zero (Some n) = n

abbrev pub counting_of : SenderState → Counts
counting_of s = record { next = s.next; outstanding = outstanding_of s.outstanding }

abbrev pub kept_of : Counts → SenderState
kept_of c = record { next = c.next; outstanding = or_zero c.outstanding }

-- where the sender stands, if one can stand so
abbrev pub standing : SenderState → Result Counts Fault
standing s = cond (possible (counting_of s)) (Ok (counting_of s)) (Err (State s.next))

-- what a call did leaves the numbers kept at c; a refusal leaves them as they were
abbrev pub leaves : {T E : Type 0} → Result T E → Counts → SenderState → SenderState
leaves (Ok d) c s = kept_of c
leaves (Err f) c s = s

-- what a call did leaves numbers that the next call takes
abbrev pub Lasts : {T E : Type 0} → Result T E → SenderState → Type 0
Lasts (Ok d) s = possible (counting_of s) ≡ true
Lasts (Err f) s = Unit {0}

-- the number that is drawn first
abbrev pub started_as : Result Counts SenderFault → Result Done Fault
started_as (Ok c) = Ok (record { number = c.next; length = 0 })
started_as (Err f) = Err (Refused (told f))

abbrev pub made : ℕ → Result Done Fault
made first = started_as (starting first)

-- the number drawn
abbrev pub drew_as : Result Ticket SenderFault → Result Done Fault
drew_as (Ok t) = Ok (record { number = t.number; length = 0 })
drew_as (Err f) = Err (Refused (told f))

abbrev pub drew : SenderState → Result Done Fault
drew s = on (standing s) (λ c. drew_as (drawing c))

-- the number given up
abbrev pub gave_up_as : Result ℕ Returned → Result Done Fault
gave_up_as (Ok n) = Ok (record { number = n; length = 0 })
gave_up_as (Err e) = Err (Refused (told e.fault))

abbrev pub gave_up : SenderState → ℕ → Result Done Fault
gave_up s n = on (standing s) (λ c. gave_up_as (giving_up c (ticket_of n)))

-- the number sealed under, with the length of the record
abbrev pub sealed_with_as : ℕ → Result ℕ Returned → Result Done Fault
sealed_with_as n (Ok k) = Ok (record { number = n; length = k })
sealed_with_as n (Err e) = Err (Refused (told e.fault))

abbrev pub sealed_by : Meaning → SenderState → ℕ → ℕ → ℕ → ℕ → Result Done Fault
sealed_by m s n header text area = on (standing s) (λ c. sealed_with_as n (sealing_with m c (ticket_of n) header text area))

abbrev pub sealed_with : Result Meaning Fault → SenderState → ℕ → List ℕ → List ℕ → ℕ → Result Done Fault
sealed_with l s n header text area = on l (λ m. sealed_by m s n (length header) (length text) area)

-- where each call leaves a sender that it does not refuse
abbrev pub after_drawing : SenderState → Counts
after_drawing s = after_draw (drawing (counting_of s)) (counting_of s)

abbrev pub after_spent : SenderState → Counts
after_spent s = record { next = s.next; outstanding = None }

-- a call that came so: what is answered, and the numbers kept afterwards, at c where it was not refused
pub record Sends (came : Result Done Fault) (c : Counts) (s : SenderState) (a : Answer) (s' : SenderState) : Type 0 where
  pub answer : a ≡ answered came
  pub after : s' ≡ leaves came c s
  pub lasting : Lasts came s'

-- seal: with what the area holds afterwards
pub record SealsWith (l : Result Meaning Fault) (s : SenderState) (n : ℕ) (header text area : List ℕ) (a : Answer) (s' : SenderState) (area' : List ℕ) : Type 0 where
  pub sends : Sends (sealed_with l s n header text (length area)) (after_spent s) s a s'
  pub puts : area' ≡ written l (sealed_with l s n header text (length area)) (λ m. record_of m header n text) area
