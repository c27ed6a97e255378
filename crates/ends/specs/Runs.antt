-- Runs: lists of calls at a sender and two receivers, in any order, with what came back.
use Rattle.std.specs.Prelude.{◌≡◌, ℕ, ◌^◌, ◌≤◌, List, [], ◌∷◌, length, take, Some, None, Ok, Err, Option, Result}
use Rattle.octets.specs.Strings.{Bytes}
use Rattle.sealing.specs.Calls.{placed, text_of}
use Rattle.sealing.specs.Meaning.{Meaning}
use Rattle.sealing.specs.Sealing.{record_of}
use Rattle.sealing.specs.declared.plain_open.Opened.{Opened}
use Rattle.ends.specs.Receiving.{receiving, Marking}
use Rattle.ends.specs.Sending.{started, drawing, after_draw, giving_up, sealing_with, after_spending}
use Rattle.ends.specs.Window.{fresh}
use Rattle.ends.specs.declared.counter.Counts.{Counts}
use Rattle.ends.specs.declared.fault.ReceiverFault.{ReceiverFault}
use Rattle.ends.specs.declared.fault.SenderFault.{SenderFault}
use Rattle.ends.specs.declared.ticket.Returned.{Returned}
use Rattle.ends.specs.declared.ticket.Ticket.{Ticket}
use Rattle.ends.specs.declared.window.Marks.{Marks}

-- a record brought to a receiver: its header, the lengths of the areas lent, and the number and the text handed out, if any
pub record Receipt : Type 0 where
  pub header : List ℕ
  pub sealing : List ℕ
  pub work : ℕ
  pub room : ℕ
  pub handed : Option (ℕ × List ℕ)

abbrev pub handed_out : Result Opened ReceiverFault → List ℕ → Option (ℕ × List ℕ)
handed_out (Ok o) text = Some (o.number, take o.length text)
handed_out (Err f) text = None

-- a call, with what was brought, what came back, and what areas held before and after
pub data Event : Type 0 where
  draws : Result Ticket SenderFault → Event
  seals : (ticket : Ticket) (header text area area' : List ℕ) → Result ℕ Returned → Event
  gives_up : Ticket → Result ℕ Returned → Event
  first_receives : (header r : List ℕ) (work : ℕ) (text text' : List ℕ) → Result Opened ReceiverFault → Event
  second_receives : (header r : List ℕ) (work : ℕ) (text text' : List ℕ) → Result Opened ReceiverFault → Event

-- what the contracts of the calls state
abbrev pub Draws : Counts → Result Ticket SenderFault → Counts → Type 0
Draws c a c' = (a ≡ drawing c) × (c' ≡ after_draw a c)

abbrev pub GivesUp : Counts → Ticket → Result ℕ Returned → Counts → Type 0
GivesUp c t a c' = (a ≡ giving_up c t) × (c' ≡ after_spending a c)

pub record Seals (m : Meaning) (c : Counts) (t : Ticket) (header text area area' : List ℕ) (a : Result ℕ Returned) (c' : Counts) : Type 0 where
  pub header_bytes : Bytes header
  pub text_bytes : Bytes text
  pub answer : a ≡ sealing_with m c t (length header) (length text) (length area)
  pub after : c' ≡ after_spending a c
  pub written : area' ≡ placed a area (record_of m header t.number text)

pub record Receives (m : Meaning) (w : Marks) (header r : List ℕ) (work : ℕ) (text text' : List ℕ) (a : Result Opened ReceiverFault) (w' : Marks) : Type 0 where
  pub header_bytes : Bytes header
  pub record_bytes : Bytes r
  pub answer : a ≡ receiving m w header r work (length text)
  pub after : Marking a w w'
  pub written : text' ≡ placed a text (text_of m r)

-- where a sender and two receivers stand
pub record World : Type 0 where
  pub sender : Counts
  pub first : Marks
  pub second : Marks

-- one call: the end that is called does what its contract states, and the others stay; the ends mean m, m₁ and m₂
abbrev pub Step : Meaning → Meaning → Meaning → World → Event → World → Type 0
Step m m₁ m₂ w (draws a) w' = Draws w.sender a w'.sender × (w'.first ≡ w.first) × (w'.second ≡ w.second)
Step m m₁ m₂ w (seals t h x r r' a) w' = Seals m w.sender t h x r r' a w'.sender × (w'.first ≡ w.first) × (w'.second ≡ w.second)
Step m m₁ m₂ w (gives_up t a) w' = GivesUp w.sender t a w'.sender × (w'.first ≡ w.first) × (w'.second ≡ w.second)
Step m m₁ m₂ w (first_receives h r k x x' a) w' = Receives m₁ w.first h r k x x' a w'.first × (w'.sender ≡ w.sender) × (w'.second ≡ w.second)
Step m m₁ m₂ w (second_receives h r k x x' a) w' = Receives m₂ w.second h r k x x' a w'.second × (w'.sender ≡ w.sender) × (w'.first ≡ w.first)

-- ends that were just made, the sender with this first number
abbrev pub start : ℕ → World
start n = record { sender = started n; first = fresh; second = fresh }

-- the calls, the latest first, led from ends that were just made to where they stand
abbrev pub Run : Meaning → Meaning → Meaning → ℕ → List Event → World → Type 0
Run m m₁ m₂ n [] w = (1 ≤ n) × (n ≤ 2 ^ 40) × (w ≡ start n)
Run m m₁ m₂ n (e ∷ es) w' = (w : World) × Run m m₁ m₂ n es w × Step m m₁ m₂ w e w'
