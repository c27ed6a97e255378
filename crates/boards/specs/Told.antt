-- What an answer to a board tells.
use Rattle.std.specs.Prelude.{ℕ, Some, None, Ok, Err, Option, Result}
use Rattle.refusals.specs.declared.Place.{Place}
use Rattle.refusals.specs.declared.Place.TheVariants.{Part, Sender, Expander, Cipher, Sealing, Receiver}
use Rattle.refusals.specs.declared.Reason as table
use Rattle.boards.specs.declared.answer.Answer.{Answer}
use Rattle.boards.specs.declared.answer.Done.{Done}
use Rattle.boards.specs.declared.answer.Reason.{Reason}
use Rattle.boards.specs.declared.fault.Fault.{Fault}
use Rattle.boards.specs.declared.fault.Fault.TheVariants.{Pile, LineName, State, Refused}

abbrev pub because : ℕ → ℕ → ℕ → Reason
because number place detail = record { number = number; place = place; detail = detail }

-- no refusal
abbrev pub none : Reason
none = because 0 0 0

abbrev pub place_code : Place → ℕ
place_code Part = 1
place_code Sender = 2
place_code Expander = 3
place_code Cipher = 4
place_code Sealing = 5
place_code Receiver = 6

abbrev pub coded : table.Reason → Reason
coded r = because r.number (place_code r.place) r.detail

abbrev pub carried_code : Option table.Reason → Reason
carried_code (Some r) = coded r
carried_code None = none

abbrev pub refused : Reason → Reason → Answer
refused reason carried = record { refusal = reason; carried = carried; number = 0; length = 0 }

-- 100: a pile that there is not, which this is; 101: the name of a line has another length than 8, which this is;
-- 102: no end stands so, and this is its next or its highest number; all others as in the table of refusals
abbrev pub told : Fault → Answer
told (Pile p) = refused (because 100 100 p) none
told (LineName n) = refused (because 101 100 n) none
told (State n) = refused (because 102 100 n) none
told (Refused r) = refused (coded r.reason) (carried_code r.carried)

-- the number of the record, and how many bytes were written
abbrev pub answered : Result Done Fault → Answer
answered (Ok d) = record { refusal = none; carried = none; number = d.number; length = d.length }
answered (Err f) = told f
