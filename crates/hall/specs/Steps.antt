-- What a later line is answered, and where it leaves the ends, the ticket held and the area of records and texts.
use Rattle.std.specs.Prelude.{◌≡◌, ℕ, ◌≤◌, List, length, Some, None, Ok, Err, Option, Result}
use Rattle.ciphers.specs.declared.wide.WideCipher.{Ghosts as Cipher}
use Rattle.hashes.specs.declared.keyed.KeyedHash.{Ghosts as Hash}
use Rattle.sealing.specs.Calls.{placed, text_of}
use Rattle.sealing.specs.Meaning.{Meaning, meaning}
use Rattle.sealing.specs.Sealing.{record_of}
use Rattle.sealing.specs.declared.plain_open.Opened.{Opened}
use Rattle.ends.specs.Receiving as receiver
use Rattle.ends.specs.Receiving.{receiving, Marking}
use Rattle.ends.specs.Refusals.{told, told_receiver}
use Rattle.ends.specs.Sending.{Parts, parts_of, counting_of, drawing, after_draw, giving_up, sealing_with, after_spending}
use Rattle.ends.specs.declared.counter.Counts.{Counts}
use Rattle.ends.specs.declared.window.Marks.{Marks}
use Rattle.ends.specs.declared.fault.ReceiverFault.{ReceiverFault}
use Rattle.ends.specs.declared.fault.SenderFault.{SenderFault}
use Rattle.ends.specs.declared.ticket.Returned.{Returned}
use Rattle.ends.specs.declared.ticket.Ticket.{Ticket}
use Rattle.forms.specs.Columns.{Reads}
use Rattle.forms.specs.Spelling.{Asked, Asks, draw, give_up, seal, receive}
use Rattle.hall.specs.declared.hall.Hall.{Hall}
use Rattle.hall.specs.Replies.{Reply}
use Rattle.forms.specs.declared.answer.Answer.TheVariants.{Ticket as Drew, GivenUp, NoTicket, Record, Text, Refused, Unread}

-- the parts and the line of each end, where the ends stand, and the ticket held, if any
pub record State (C J : Type 0) : Type 0 where
  pub sender : Parts C J
  pub receiver : Parts C J
  pub counting : Counts
  pub window : Marks
  pub held : Option Ticket

abbrev pub state_of : {C J : Type 0} → Hall C J → State C J
state_of h = record { sender = parts_of h.sender; receiver = receiver.parts_of h.receiver; counting = counting_of h.sender; window = receiver.marks_of h.receiver; held = h.held }

-- what the parts and the line of an end mean
abbrev pub meaning_of : {C J : Type 0} → Cipher C → Hash J → Parts C J → Meaning
meaning_of c j p = meaning c j p.cipher p.hash p.line

-- a draw: the ticket is held
abbrev pub drew : Result Ticket SenderFault → Reply
drew (Ok t) = Drew t.number
drew (Err f) = Refused (told f)

abbrev pub holding : Result Ticket SenderFault → Option Ticket → Option Ticket
holding (Ok t) held = Some t
holding (Err f) held = held

-- the ticket held is spent, or it is handed back
abbrev pub gave_up : Result ℕ Returned → Reply
gave_up (Ok n) = GivenUp n
gave_up (Err e) = Refused (told e.fault)

abbrev pub sealed : Result ℕ Returned → Reply
sealed (Ok n) = Record n
sealed (Err e) = Refused (told e.fault)

abbrev pub handed_back : Result ℕ Returned → Option Ticket
handed_back (Ok n) = None
handed_back (Err e) = Some e.ticket

abbrev pub received : Result Opened ReceiverFault → Reply
received (Ok o) = Text o.length
received (Err f) = Refused (told_receiver f)

-- what is asked of the ticket held, if any: the reply, where the sender is left, and the ticket that is then held
abbrev pub reply_held : (Ticket → Result ℕ Returned) → (Result ℕ Returned → Reply) → Option Ticket → Reply
reply_held spending reply None = NoTicket
reply_held spending reply (Some t) = reply (spending t)

abbrev pub counting_held : (Ticket → Result ℕ Returned) → Counts → Option Ticket → Counts
counting_held spending c None = c
counting_held spending c (Some t) = after_spending (spending t) c

abbrev pub still_held : (Ticket → Result ℕ Returned) → Option Ticket → Option Ticket
still_held spending None = None
still_held spending (Some t) = handed_back (spending t)

abbrev pub written_held : (Ticket → Result ℕ Returned) → (Ticket → List ℕ) → List ℕ → Option Ticket → List ℕ
written_held spending bytes out None = out
written_held spending bytes out (Some t) = placed (spending t) out (bytes t)

-- `work` and `room` are the lengths of the work area and of the area of records and texts, which holds `out`
module _ {C J : Type 0} (c : Cipher C) (j : Hash J) (h : State C J) (work room : ℕ) where
  abbrev pub sending : List ℕ → List ℕ → Ticket → Result ℕ Returned
  sending header text t = sealing_with (meaning_of c j h.sender) h.counting t (length header) (length text) room

  abbrev pub taking : List ℕ → List ℕ → Result Opened ReceiverFault
  taking header r = receiving (meaning_of c j h.receiver) h.window header r work room

  abbrev pub replying : Asked → Reply
  replying draw = drew (drawing h.counting)
  replying give_up = reply_held (giving_up h.counting) gave_up h.held
  replying (seal header text) = reply_held (sending header text) sealed h.held
  replying (receive header r) = received (taking header r)

  abbrev pub counting_after : Asked → Counts
  counting_after draw = after_draw (drawing h.counting) h.counting
  counting_after give_up = counting_held (giving_up h.counting) h.counting h.held
  counting_after (seal header text) = counting_held (sending header text) h.counting h.held
  counting_after (receive header r) = h.counting

  abbrev pub held_after : Asked → Option Ticket
  held_after draw = holding (drawing h.counting) h.held
  held_after give_up = still_held (giving_up h.counting) h.held
  held_after (seal header text) = still_held (sending header text) h.held
  held_after (receive header r) = h.held

  abbrev pub Window : Asked → Marks → Type 0
  Window draw w' = w' ≡ h.window
  Window give_up w' = w' ≡ h.window
  Window (seal header text) w' = w' ≡ h.window
  Window (receive header r) w' = Marking (taking header r) h.window w'

  abbrev pub written : Asked → List ℕ → List ℕ
  written draw out = out
  written give_up out = out
  written (seal header text) out = written_held (sending header text) (λ t. record_of (meaning_of c j h.sender) header t.number text) out h.held
  written (receive header r) out = placed (taking header r) out (text_of (meaning_of c j h.receiver) r)

-- what a line asks is done: the reply, where the ends and the ticket held are left, and what the area of records and texts then holds
pub record Obeys {C J : Type 0} (c : Cipher C) (j : Hash J) (h : State C J) (work room : ℕ) (out : List ℕ) (a : Asked) (r : Reply) (h' : State C J) (out' : List ℕ) : Type 0 where
  pub reply : r ≡ replying c j h work room a
  pub sender : h'.sender ≡ h.sender
  pub receiver : h'.receiver ≡ h.receiver
  pub counting : h'.counting ≡ counting_after c j h work room a
  pub window : Window c j h work room a h'.window
  pub held : h'.held ≡ held_after c j h work room a
  pub area : out' ≡ written c j h work room a out

-- an unread line is answered by its column and leaves all as it was
abbrev pub ObeysRead : {C J : Type 0} → Cipher C → Hash J → State C J → ℕ → ℕ → List ℕ → Result Asked ℕ → Reply → State C J → List ℕ → Type 0
ObeysRead c j h work room out (Ok a) r h' out' = Obeys c j h work room out a r h' out'
ObeysRead c j h work room out (Err k) r h' out' = (r ≡ Unread k) × (h' ≡ h) × (out' ≡ out)

-- what is read of the line s is done
abbrev pub Steps : {C J : Type 0} → Cipher C → Hash J → State C J → List ℕ → ℕ → ℕ → List ℕ → Reply → State C J → List ℕ → Type 0
Steps c j h s work room out r h' out' = (q : Result Asked ℕ) × Reads Asks s q × ObeysRead c j h work room out q r h' out'

-- the byte strings that are asked with fit areas of n bytes
abbrev pub Fits : ℕ → Asked → Type 0
Fits n draw = Unit {0}
Fits n give_up = Unit {0}
Fits n (seal header text) = (length header ≤ n) × (length text ≤ n)
Fits n (receive header r) = (length header ≤ n) × (length r ≤ n)

-- at the end of the input a ticket still held is given up
abbrev pub closing_with : Counts → Option Ticket → Option Reply
closing_with c None = None
closing_with c (Some t) = Some (gave_up (giving_up c t))

abbrev pub closing : {C J : Type 0} → State C J → Option Reply
closing h = closing_with h.counting h.held
