-- The calls of a receiving end, over the numbers that a board keeps of it.
use Rattle.std.specs.Prelude.{◌≡◌, ℕ, cond, List, length, Ok, Err, Result, nat_lt}
use Rattle.octets.specs.Strings.{zeros}
use Rattle.sealing.specs.Calls.{text_of}
use Rattle.sealing.specs.Meaning.{Meaning}
use Rattle.sealing.specs.declared.plain_open.Opened.{Opened}
use Rattle.ends.specs.Receiving.{receiving}
use Rattle.ends.specs.Refusals.{told_receiver}
use Rattle.ends.specs.Sending.{last}
use Rattle.ends.specs.Window.{Accepts, fresh, possible}
use Rattle.ends.specs.declared.window.Marks.{Marks}
use Rattle.ends.specs.declared.fault.ReceiverFault.{ReceiverFault}
use Rattle.boards.specs.Done.{done}
use Rattle.boards.specs.Plain.{on, written}
use Rattle.boards.specs.Told.{answered}
use Rattle.boards.specs.declared.answer.Answer.{Answer}
use Rattle.boards.specs.declared.answer.Done.{Done}
use Rattle.boards.specs.declared.fault.Fault.{Fault}
use Rattle.boards.specs.declared.fault.Fault.TheVariants.{State, Refused}
use Rattle.boards.specs.declared.state.ReceiverState.{ReceiverState}

abbrev pub marks_of : ReceiverState → Marks
marks_of s = record { highest = s.highest; marks = s.marks }

-- where the receiver stands, if one can stand so: a window can, and its highest is a number of a line
abbrev pub standing : ReceiverState → Result Marks Fault
standing s =
    cond (nat_lt last s.highest) (Err (State s.highest))
    (cond (possible (marks_of s)) (Ok (marks_of s)) (Err (State s.highest)))

-- the number of an accepted record joins those accepted, and the next call takes what is then kept; a refusal leaves all as it was
abbrev pub Leaves : Result Done Fault → ReceiverState → ReceiverState → Type 0
Leaves (Ok d) s s' = Accepts (marks_of s) d.number (marks_of s') × (standing s' ≡ Ok (marks_of s'))
Leaves (Err f) s s' = s' ≡ s

-- the number of the record, with the length of its text
abbrev pub received_as : Result Opened ReceiverFault → Result Done Fault
received_as (Ok o) = Ok (done o)
received_as (Err f) = Err (Refused (told_receiver f))

abbrev pub received_by : Meaning → ReceiverState → List ℕ → List ℕ → ℕ → ℕ → Result Done Fault
received_by m s header r work text = on (standing s) (λ w. received_as (receiving m w header r work text))

abbrev pub received : Result Meaning Fault → ReceiverState → List ℕ → List ℕ → ℕ → ℕ → Result Done Fault
received l s header r work text = on l (λ m. received_by m s header r work text)

-- making is never refused
abbrev pub made : Result Done Fault
made = Ok (record { number = 0; length = 0 })

pub record Makes (a : Answer) (s : ReceiverState) : Type 0 where
  pub answer : a ≡ answered made
  pub after : marks_of s ≡ fresh

-- receive: what is answered, the numbers kept afterwards, and what the text area and the work area then hold
pub record Receives (l : Result Meaning Fault) (s : ReceiverState) (header r work text : List ℕ) (a : Answer) (s' : ReceiverState) (work' text' : List ℕ) : Type 0 where
  pub answer : a ≡ answered (received l s header r (length work) (length text))
  pub after : Leaves (received l s header r (length work) (length text)) s s'
  pub puts : text' ≡ written l (received l s header r (length work) (length text)) (λ m. text_of m r) text
  pub zeroed : work' ≡ zeros (length work)
