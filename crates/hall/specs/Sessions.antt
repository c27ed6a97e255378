-- A session is a run: the call that a line makes, and where it leads.
use Rattle.std.specs.Prelude.{◌≡◌, ℕ, List, [], ◌∷◌, ◌++◌, length, Some, None, Ok, Err, Option, Result}
use Rattle.ciphers.specs.declared.wide.WideCipher.{Ghosts as Cipher}
use Rattle.hashes.specs.declared.keyed.KeyedHash.{Ghosts as Hash}
use Rattle.sealing.specs.Calls.{placed, text_of}
use Rattle.sealing.specs.Meaning.{Meaning}
use Rattle.sealing.specs.Sealing.{record_of}
use Rattle.ends.specs.Runs.{Event, draws, seals, gives_up, first_receives, World, Run}
use Rattle.ends.specs.Sending.{drawing, giving_up}
use Rattle.ends.specs.Window.{fresh}
use Rattle.ends.specs.declared.window.Marks.{Marks}
use Rattle.ends.specs.declared.ticket.Ticket.{Ticket}
use Rattle.forms.specs.Columns.{Reads}
use Rattle.forms.specs.Spelling.{Asked, Asks, draw, give_up, seal, receive}
use Rattle.hall.specs.Steps.{State, state_of, meaning_of, sending, taking}
use Rattle.hall.specs.declared.hall.Hall.{Hall}
use Rattle.hall.specs.declared.opened.Opened.{Opened}
use Rattle.hall.specs.declared.opened.Opened.TheVariants.{A, B}

-- a call with the ticket held, if any
abbrev pub with_held : (Ticket → Event) → Option Ticket → List Event
with_held call None = []
with_held call (Some t) = call t ∷ []

-- The calls that a line makes, one or none, with what they bring and what comes back. `work` is the length of the work area, and `out` is what
-- the area of records and texts holds.
module _ {C J : Type 0} (c : Cipher C) (j : Hash J) (h : State C J) (work : ℕ) (out : List ℕ) where
  abbrev pub sealed_by : List ℕ → List ℕ → Ticket → Event
  sealed_by header text t =
      let a = sending c j h work (length out) header text t in
      seals t header text out (placed a out (record_of (meaning_of c j h.sender) header t.number text)) a

  abbrev pub received_by : List ℕ → List ℕ → Event
  received_by header r =
      let a = taking c j h work (length out) header r in
      first_receives header r work out (placed a out (text_of (meaning_of c j h.receiver) r)) a

  abbrev pub calls : Asked → List Event
  calls draw = draws (drawing h.counting) ∷ []
  calls give_up = with_held (λ t. gives_up t (giving_up h.counting t)) h.held
  calls (seal header text) = with_held (sealed_by header text) h.held
  calls (receive header r) = received_by header r ∷ []

  -- an unread line makes none
  abbrev pub calls_read : Result Asked ℕ → List Event
  calls_read (Ok a) = calls a
  calls_read (Err k) = []

-- where the ends stand, and a second receiver elsewhere
abbrev pub world : {C J : Type 0} → State C J → Marks → World
world h second = record { sender = h.counting; first = h.window; second = second }

-- these calls led the ends from their making to h, and a second receiver, which means m₂, to where it stands
abbrev pub Led : {C J : Type 0} → Cipher C → Hash J → Meaning → ℕ → List Event → State C J → Marks → Type 0
Led c j m₂ first es h second = Run (meaning_of c j h.sender) (meaning_of c j h.receiver) m₂ first es (world h second)

-- whatever calls led the ends to h: with the calls es they led to h'; a second receiver, whatever it means, stays
abbrev pub Leads : {C J : Type 0} → Cipher C → Hash J → State C J → List Event → State C J → Type 0
Leads c j h es h' = (m₂ : Meaning) (first : ℕ) (before : List Event) (second : Marks) → Led c j m₂ first before h second → Led c j m₂ first (es ++ before) h' second

-- what is read of the line s makes its calls, and they lead from h to h'
abbrev pub Continues : {C J : Type 0} → Cipher C → Hash J → State C J → List ℕ → ℕ → List ℕ → State C J → Type 0
Continues c j h s work out h' = (q : Result Asked ℕ) × Reads Asks s q × Leads c j h (calls_read c j h work out q) h'

-- ends that were just made hold the same parts and the same name, and stand where no calls led
pub record Starts {C J : Type 0} (h : State C J) : Type 0 where
  pub same : h.receiver ≡ h.sender
  pub first : ℕ
  pub led : (m m₂ : Meaning) → Run m m m₂ first [] (world h fresh)

abbrev pub Begun : {C J E : Type 0} → Result (Hall C J) E → Type 0
Begun (Ok h) = Starts (state_of h)
Begun (Err e) = Unit {0}

abbrev pub Begins : {E : Type 0} → Result Opened E → Type 0
Begins (Ok (A h)) = Starts (state_of h)
Begins (Ok (B h)) = Starts (state_of h)
Begins (Err e) = Unit {0}
