-- The ends that the first line makes.
use Rattle.std.specs.Prelude.{◌≡◌, ℕ, cond, List, None, Ok, Err, Option, Result, nat_lt}
use Rattle.refusals.specs.Table.{alone, key_length, first_number}
use Rattle.refusals.specs.declared.KeyLength.{KeyLength}
use Rattle.refusals.specs.declared.Refusal.{Refusal}
use Rattle.ends.specs.Sending.{Parts, started, last}
use Rattle.ends.specs.Window.{fresh}
use Rattle.ends.specs.declared.counter.Counts.{Counts}
use Rattle.ends.specs.declared.window.Marks.{Marks}
use Rattle.ends.specs.declared.fault.SenderFault.{SenderFault}
use Rattle.ends.specs.declared.ticket.Ticket.{Ticket}
use Rattle.forms.specs.Columns.{Reads}
use Rattle.forms.specs.Spelling.{Ends}
use Rattle.forms.specs.Spelling as spelling
use Rattle.forms.specs.declared.opening.Pile.{Pile}
use Rattle.forms.specs.declared.opening.Pile.TheVariants as pile
use Rattle.hall.specs.Keys.{Keys, keys_a, keys_b, keys_of}
use Rattle.hall.specs.Steps.{State, state_of}
use Rattle.hall.specs.declared.hall.Hall.{Hall}
use Rattle.hall.specs.declared.opened.Opened.{Opened}
use Rattle.hall.specs.declared.opened.Opened.TheVariants.{A, B}
use Rattle.hall.specs.Replies.{Reply}
use Rattle.forms.specs.declared.answer.Answer.TheVariants.{Refused, Unread}

-- an end: the keys of its parts and the name of its line
pub record End : Type 0 where
  pub keys : Keys
  pub line : List ℕ

-- ends that were made: of which pile, what each holds, where they stand, and the ticket held, if any
pub record Made : Type 0 where
  pub pile : Pile
  pub sender : End
  pub receiver : End
  pub counting : Counts
  pub window : Marks
  pub held : Option Ticket

abbrev pub end_of : {C J : Type 0} → (C → J → Keys) → Parts C J → End
end_of keys p = record { keys = keys p.cipher p.hash; line = p.line }

abbrev pub made_of : {C J : Type 0} → Pile → (C → J → Keys) → State C J → Made
made_of p keys h = record { pile = p; sender = end_of keys h.sender; receiver = end_of keys h.receiver; counting = h.counting; window = h.window; held = h.held }

-- both ends hold these keys and this name; no number is outstanding, none was accepted, and no ticket is held
abbrev pub new : Pile → Keys → List ℕ → ℕ → Made
new p keys line first = record { pile = p; sender = record { keys = keys; line = line }; receiver = record { keys = keys; line = line }; counting = started first; window = fresh; held = None }

-- the first refusal, if any: of the keys in their order, and then of the first number
abbrev pub numbered : Pile → Ends → Result Keys KeyLength → Result Made Refusal
numbered p o (Err e) = Err (alone (key_length e.0))
numbered p o (Ok keys) =
    cond (nat_lt o.first 1) (Err (alone (first_number o.first)))
    (cond (nat_lt last o.first) (Err (alone (first_number o.first))) (Ok (new p keys o.line o.first)))

abbrev pub opened : Pile → Ends → Result Made Refusal
opened p o = numbered p o (keys_of p o)

-- the reply to the first line where no ends are made
abbrev pub replied : Result Made Refusal → Result Made Reply
replied (Ok m) = Ok m
replied (Err f) = Err (Refused f)

abbrev pub opening : Result Ends ℕ → Result Made Reply
opening (Ok o) = replied (opened o.pile o)
opening (Err c) = Err (Unread c)

-- what came of it, as far as it is told
abbrev pub standing : {C J : Type 0} → Parts C J → Result (Parts C J × Counts) SenderFault → Result (State C J) SenderFault
standing p (Ok s) = Ok (record { sender = s.0; receiver = p; counting = s.1; window = fresh; held = None })
standing p (Err f) = Err f

abbrev pub stood : {C J : Type 0} → Result (Hall C J) SenderFault → Result (State C J) SenderFault
stood (Ok h) = Ok (state_of h)
stood (Err f) = Err f

abbrev pub seen_as : {C J : Type 0} → Pile → (C → J → Keys) → Result (Hall C J) Refusal → Result Made Refusal
seen_as p keys (Ok h) = Ok (made_of p keys (state_of h))
seen_as p keys (Err f) = Err f

abbrev pub made_by : Opened → Made
made_by (A h) = made_of pile.A keys_a (state_of h)
made_by (B h) = made_of pile.B keys_b (state_of h)

abbrev pub seen : {E : Type 0} → Result Opened E → Result Made E
seen (Ok h) = Ok (made_by h)
seen (Err e) = Err e

-- the ends are made, or not, as what is read of the line s says
abbrev pub Opens : List ℕ → Result Opened Reply → Type 0
Opens s r = (q : Result Ends ℕ) × Reads spelling.Opens s q × (seen r ≡ opening q)
