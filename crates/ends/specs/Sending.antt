-- What the calls of a sender answer, and where they leave it.
use Rattle.std.specs.Prelude.{ℕ, ◌+◌, ◌^◌, Bool, true, false, cond, List, Some, None, Ok, Err, Option, Result, ◌==◌, nat_lt}
use Rattle.ends.specs.declared.fault.SenderFault.{SenderFault}
use Rattle.ends.specs.declared.fault.SenderFault.TheVariants.{Sealing, FirstNumber, TicketOut, UsedUp, WrongTicket}
use Rattle.sealing.specs.Calls.{fitting}
use Rattle.ciphers.specs.declared.wide.WideCipher.{Ghosts as Cipher}
use Rattle.hashes.specs.declared.keyed.KeyedHash.{Ghosts as Hash}
use Rattle.sealing.specs.Meaning as line
use Rattle.sealing.specs.Meaning.{Meaning}
use Rattle.sealing.specs.declared.fault.SealingFault.{SealingFault}
use Rattle.sealing.specs.declared.line.Line.{Line}
use Rattle.ends.specs.declared.counter.Counter.{Counter}
use Rattle.ends.specs.declared.counter.Counts.{Counts}
use Rattle.ends.specs.declared.sender.Sender.{Sender}
use Rattle.ends.specs.declared.ticket.Returned.{Returned}
use Rattle.ends.specs.declared.ticket.Ticket.{Ticket}

-- the parts and the name of the line that an end was made with
pub record Parts (C J : Type 0) : Type 0 where
  pub cipher : C
  pub hash : J
  pub line : List ℕ

abbrev pub parts : {C J : Type 0} → Line C J → Parts C J
parts l = record { cipher = l.cipher; hash = l.hash; line = l.name.bytes }

abbrev pub parts_of : {C J : Type 0} → Sender C J → Parts C J
parts_of s = parts s.line

abbrev pub counts_of : Counter → Counts
counts_of k = k.counts

abbrev pub counting_of : {C J : Type 0} → Sender C J → Counts
counting_of s = counts_of s.counter

-- what its line means
abbrev pub meaning_of : {C J : Type 0} → Cipher C → Hash J → Sender C J → Meaning
meaning_of c j s = line.meaning_of c j s.line

-- the last number of a line
abbrev pub last : ℕ
last = 2 ^ 40

-- at the making no number is outstanding
abbrev pub started : ℕ → Counts
started first = record { next = first; outstanding = None }

-- made with a first number from 1 to the last
abbrev pub making : {C J : Type 0} → C → J → List ℕ → ℕ → Result (Parts C J × Counts) SenderFault
making cipher hash line first =
    cond (nat_lt first 1) (Err (FirstNumber first))
    (cond (nat_lt last first) (Err (FirstNumber first)) (Ok (record { cipher = cipher; hash = hash; line = line }, started first)))

abbrev pub seen : {C J : Type 0} → Result (Sender C J) SenderFault → Result (Parts C J × Counts) SenderFault
seen (Ok s) = Ok (parts_of s, counting_of s)
seen (Err f) = Err f

-- the same of a counter alone
abbrev pub starting : ℕ → Result Counts SenderFault
starting first = cond (nat_lt first 1) (Err (FirstNumber first)) (cond (nat_lt last first) (Err (FirstNumber first)) (Ok (started first)))

abbrev pub counted : Result Counter SenderFault → Result Counts SenderFault
counted (Ok k) = Ok (counts_of k)
counted (Err f) = Err f

-- whether some sender stands so: the next number is from 1 to one past the last, and a number outstanding is the one before it, and not 0
abbrev pub before : Option ℕ → ℕ → Bool
before None next = true
before (Some n) next = cond (nat_lt n 1) false (n + 1 == next)

abbrev pub possible : Counts → Bool
possible c = cond (nat_lt c.next 1) false (cond (nat_lt (last + 1) c.next) false (before c.outstanding c.next))

-- a counter is made again where it can have stood, and nowhere else
abbrev pub resuming : Counts → Option Counts
resuming c = cond (possible c) (Some c) None

abbrev pub resumed : Option Counter → Option Counts
resumed (Some k) = Some (counts_of k)
resumed None = None

-- a draw: first whether a ticket is out, then whether the numbers are used up
abbrev pub drawing_at : Option ℕ → ℕ → Result Ticket SenderFault
drawing_at (Some n) next = Err (TicketOut n)
drawing_at None next = cond (nat_lt last next) (Err UsedUp) (Ok (record { number = next }))

abbrev pub drawing : Counts → Result Ticket SenderFault
drawing c = drawing_at c.outstanding c.next

-- a number drawn, as the ticket that bears it
abbrev pub ticket_of : ℕ → Ticket
ticket_of n = record { number = n }

abbrev pub ticketed : Result ℕ SenderFault → Result Ticket SenderFault
ticketed (Ok n) = Ok (ticket_of n)
ticketed (Err f) = Err f

-- the ticket's number is outstanding, and the next is one more; a refusal leaves all as it was
abbrev pub after_draw : Result Ticket SenderFault → Counts → Counts
after_draw (Err f) c = c
after_draw (Ok t) c = record { next = c.next + 1; outstanding = Some t.number }

-- whether n is the number outstanding
abbrev pub is_out : Option ℕ → ℕ → Bool
is_out None n = false
is_out (Some k) n = k == n

abbrev pub wrong_ticket : Ticket → Returned
wrong_ticket t = record { ticket = t; fault = WrongTicket t.number }

-- what becomes of a ticket, from what becomes of its number n
abbrev pub handing : {T : Type 0} → ℕ → Result T SenderFault → Result T Returned
handing n (Ok k) = Ok k
handing n (Err f) = Err (record { ticket = ticket_of n; fault = f })

-- giving up takes the ticket that is out; any other is handed back
abbrev pub giving_up : Counts → Ticket → Result ℕ Returned
giving_up c t = cond (is_out c.outstanding t.number) (Ok t.number) (Err (wrong_ticket t))

-- a refused sealing hands the ticket back
abbrev pub handed_back : Ticket → Result ℕ SealingFault → Result ℕ Returned
handed_back t (Ok k) = Ok k
handed_back t (Err f) = Err (record { ticket = t; fault = Sealing f })

-- sealing with the ticket that is out: header, text and area of these lengths; any other ticket is handed back
abbrev pub sealing_with : Meaning → Counts → Ticket → ℕ → ℕ → ℕ → Result ℕ Returned
sealing_with m c t header text area =
    cond (is_out c.outstanding t.number) (handed_back t (fitting m header text area)) (Err (wrong_ticket t))

-- a ticket that is sealed or given up is no more outstanding; a refusal leaves all as it was
abbrev pub after_spending : Result ℕ Returned → Counts → Counts
after_spending (Err e) c = c
after_spending (Ok n) c = record { next = c.next; outstanding = None }
