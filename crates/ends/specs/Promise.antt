-- The promise: what holds after every list of calls.
use Rattle.std.specs.Prelude.{◌≡◌, ℕ, zero, suc, ◌+◌, ◌<◌, ◌≤◌, cond, ◌⊎◌, List, [], ◌∷◌, length, take, Some, None, Ok, Err, Option, ◌==◌}
use Rattle.octets.specs.Strings.{Bytes}
use Rattle.std.specs.Option.{option_to_list}
use Rattle.ciphers.specs.Admitted.{Admitted}
use Rattle.sealing.specs.Exactly.{LawfulSizes}
use Rattle.sealing.specs.Meaning.{Meaning, Lawful}
use Rattle.sealing.specs.Sealing.{IsSealing}
use Rattle.ends.specs.Runs.{Event, draws, seals, gives_up, first_receives, second_receives, Receipt, handed_out, World, Run}

-- Two lines mean the same: lengths, what a refusal carries and the name agree, and cipher and hash agree at all that may be asked of them.
pub record Same (m m' : Meaning) : Type 0 where
  pub lowest : m'.lowest ≡ m.lowest
  pub highest : m'.highest ≡ m.highest
  pub carried : m'.carried ≡ m.carried
  pub line : m'.line ≡ m.line
  pub enc : (w s : List ℕ) → Admitted m.lowest m.highest w s → m'.enc w s ≡ m.enc w s
  pub dec : (w s : List ℕ) → Admitted m.lowest m.highest w s → m'.dec w s ≡ m.dec w s
  pub hash : (s : List ℕ) → Bytes s → m'.hash s ≡ m.hash s

-- the part of each end in a list of calls, the latest first
abbrev pub at_first : List Event → List Receipt
at_first [] = []
at_first (draws a ∷ es) = at_first es
at_first (seals t h x r r' a ∷ es) = at_first es
at_first (gives_up t a ∷ es) = at_first es
at_first (first_receives h r k x x' a ∷ es) = record { header = h; sealing = r; work = k; room = length x; handed = handed_out a x' } ∷ at_first es
at_first (second_receives h r k x x' a ∷ es) = at_first es

abbrev pub at_second : List Event → List Receipt
at_second [] = []
at_second (draws a ∷ es) = at_second es
at_second (seals t h x r r' a ∷ es) = at_second es
at_second (gives_up t a ∷ es) = at_second es
at_second (first_receives h r k x x' a ∷ es) = at_second es
at_second (second_receives h r k x x' a ∷ es) = record { header = h; sealing = r; work = k; room = length x; handed = handed_out a x' } ∷ at_second es

-- the numbers drawn, sealed and given up
abbrev pub drawn : List Event → List ℕ
drawn [] = []
drawn (draws (Ok t) ∷ es) = t.number ∷ drawn es
drawn (draws (Err f) ∷ es) = drawn es
drawn (seals t h x r r' a ∷ es) = drawn es
drawn (gives_up t a ∷ es) = drawn es
drawn (first_receives h r k x x' a ∷ es) = drawn es
drawn (second_receives h r k x x' a ∷ es) = drawn es

abbrev pub sealed : List Event → List ℕ
sealed [] = []
sealed (draws a ∷ es) = sealed es
sealed (seals t h x r r' (Ok k) ∷ es) = t.number ∷ sealed es
sealed (seals t h x r r' (Err e) ∷ es) = sealed es
sealed (gives_up t a ∷ es) = sealed es
sealed (first_receives h r k x x' a ∷ es) = sealed es
sealed (second_receives h r k x x' a ∷ es) = sealed es

abbrev pub given_up : List Event → List ℕ
given_up [] = []
given_up (draws a ∷ es) = given_up es
given_up (seals t h x r r' a ∷ es) = given_up es
given_up (gives_up t (Ok n) ∷ es) = t.number ∷ given_up es
given_up (gives_up t (Err e) ∷ es) = given_up es
given_up (first_receives h r k x x' a ∷ es) = given_up es
given_up (second_receives h r k x x' a ∷ es) = given_up es

-- what a receiver handed out, and the numbers of it: those that it accepted
abbrev pub joined : Option (ℕ × List ℕ) → List (ℕ × List ℕ) → List (ℕ × List ℕ)
joined (Some p) ps = p ∷ ps
joined None ps = ps

abbrev pub handed_by : List Receipt → List (ℕ × List ℕ)
handed_by [] = []
handed_by (e ∷ es) = joined e.handed (handed_by es)

abbrev pub numbers : List (ℕ × List ℕ) → List ℕ
numbers [] = []
numbers (p ∷ ps) = p.0 ∷ numbers ps

abbrev pub In : ℕ → List ℕ → Type 0
In n [] = ⊥
In n (x ∷ xs) = (n ≡ x) ⊎ In n xs

-- how often a number stands in a list, and the numbers up by ones from the first, the latest first
abbrev pub occurs : ℕ → List ℕ → ℕ
occurs n [] = 0
occurs n (x ∷ xs) = cond (n == x) 1 0 + occurs n xs

abbrev pub ups : ℕ → ℕ → List ℕ
ups first zero = []
ups first (suc k) = (first + k) ∷ ups first k

-- A record is due, with this number and text, after the receipts before it: its sizes are lawful, it is a sealing for its header and this
-- line of this text under this number, and neither this number nor one higher by 64 or more was accepted earlier.
pub record Due (m : Meaning) (e : Receipt) (before : List Receipt) (n : ℕ) (x : List ℕ) : Type 0 where
  pub sizes : LawfulSizes e.header e.sealing e.work e.room
  pub sealing : IsSealing m e.header e.sealing n x
  pub new : In n (numbers (handed_by before)) → ⊥
  pub recent : (k : ℕ) → In k (numbers (handed_by before)) → k < n + 64

-- each record was accepted exactly when it was due, and what was handed out is the number and the text with which it was
abbrev pub Accepting : Meaning → List Receipt → Type 0
Accepting m [] = Unit {0}
Accepting m (e ∷ es) = ((n : ℕ) (x : List ℕ) → (e.handed ≡ Some (n, x) → Due m e es n x) × (Due m e es n x → e.handed ≡ Some (n, x))) × Accepting m es

-- every record that the sender returned is a sealing, under its ticket's number, of the text and for the header it was given
abbrev pub Sealings : Meaning → List Event → Type 0
Sealings m [] = Unit {0}
Sealings m (draws a ∷ es) = Sealings m es
Sealings m (seals t h x r r' (Ok k) ∷ es) = IsSealing m h (take k r') t.number x × Sealings m es
Sealings m (seals t h x r r' (Err e) ∷ es) = Sealings m es
Sealings m (gives_up t a ∷ es) = Sealings m es
Sealings m (first_receives h r k x x' a ∷ es) = Sealings m es
Sealings m (second_receives h r k x x' a ∷ es) = Sealings m es

-- The same records with the same headers came in the same order, each in lawful sizes at both or at neither; anywhere between, either may
-- have got others that are no sealings.
pub data Alike (m : Meaning) : List Receipt → List Receipt → Type 0 where
  none : Alike m [] []
  both : {ds es : List Receipt} {d e : Receipt} → d.header ≡ e.header → d.sealing ≡ e.sealing
      → (LawfulSizes d.header d.sealing d.work d.room → LawfulSizes e.header e.sealing e.work e.room)
      → (LawfulSizes e.header e.sealing e.work e.room → LawfulSizes d.header d.sealing d.work d.room)
      → Alike m ds es → Alike m (d ∷ ds) (e ∷ es)
  left : {ds es : List Receipt} {d : Receipt} → ((n : ℕ) (x : List ℕ) → IsSealing m d.header d.sealing n x → ⊥) → Alike m ds es → Alike m (d ∷ ds) es
  right : {ds es : List Receipt} {e : Receipt} → ((n : ℕ) (x : List ℕ) → IsSealing m e.header e.sealing n x → ⊥) → Alike m ds es → Alike m ds (e ∷ es)

pub record Kept (m : Meaning) (first : ℕ) (es : List Event) (w : World) : Type 0 where
  -- accepting
  pub first_accepts : Accepting m (at_first es)
  pub second_accepts : Accepting m (at_second es)
  pub only : (header r : List ℕ) (n k : ℕ) (x y : List ℕ) → Bytes header → IsSealing m header r n x → IsSealing m header r k y → (n ≡ k) × (x ≡ y)
  pub sealings : Sealings m es
  -- numbers: drawn up by ones from the first; each stands in one place: sealed, given up or outstanding
  pub upwards : drawn es ≡ ups first (length (drawn es))
  pub places : (n : ℕ) → occurs n (drawn es) ≡ occurs n (sealed es) + occurs n (given_up es) + occurs n (option_to_list w.sender.outstanding)
  pub once : (n : ℕ) → occurs n (drawn es) ≤ 1
  -- agreement
  pub agree : Alike m (at_first es) (at_second es) → handed_by (at_first es) ≡ handed_by (at_second es)

-- over every two lines that mean the same as this one, every first number and every list of calls
abbrev pub Promise : Meaning → Type 0
Promise m =
    (m₁ m₂ : Meaning) → Lawful m₁ → Lawful m₂ → Same m m₁ → Same m m₂ → (first : ℕ) (es : List Event) (w : World) → Run m m₁ m₂ first es w → Kept m first es w
