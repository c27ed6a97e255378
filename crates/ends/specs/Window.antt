-- The window of a receiver, as a set of numbers.
use Rattle.std.specs.Prelude.{◌≡◌, ℕ, ◌+◌, ◌-◌, ◌/◌, ◌%◌, ◌^◌, ◌<◌, max, Bool, true, false, cond, ◌||◌, Some, None, Ok, Err, Option, Result, ◌==◌, nat_le, nat_lt}
use Rattle.ends.specs.declared.fault.WindowFault.{WindowFault}
use Rattle.ends.specs.declared.fault.WindowFault.TheVariants.{TooOld, AcceptedEarlier}
use Rattle.ends.specs.declared.window.Marks.{Marks}
use Rattle.ends.specs.declared.window.Window.{Window}

abbrev pub window_of : Window → Marks
window_of w = w.accepted

abbrev pub fresh : Marks
fresh = record { highest = 0; marks = 0 }

-- whether some window stands so: the highest is 0 or marked, and nothing below 1 is
abbrev pub possible : Marks → Bool
possible w =
    cond (cond (nat_lt w.highest 1) false (w.marks % 2 == 0)) false
    (cond (nat_lt w.highest 64) (w.marks / 2 ^ w.highest == 0) true)

-- a window is made again where it can have stood, and nowhere else
abbrev pub resuming : Marks → Option Marks
resuming w = cond (possible w) (Some w) None

abbrev pub resumed : Option Window → Option Marks
resumed (Some w) = Some (window_of w)
resumed None = None

-- whether n is among the numbers accepted, of the 64 that end at the highest
abbrev pub accepted : Marks → ℕ → Bool
accepted w n = cond (nat_lt w.highest n) false (cond (nat_le (n + 64) w.highest) false (w.marks / 2 ^ (w.highest - n) % 2 == 1))

-- a number 64 or more below the highest is too old, and one that was accepted earlier is not taken again; 0 is no number
abbrev pub judging : Marks → ℕ → Result (Unit {0}) WindowFault
judging w n =
    cond (nat_lt n 1) (Err (AcceptedEarlier n))
    (cond (nat_le (n + 64) w.highest) (Err (TooOld w.highest))
    (cond (accepted w n) (Err (AcceptedEarlier n)) (Ok tt)))

-- n joins the numbers accepted: of the 64 that end at what is then the highest, k is accepted if it is n or was before
pub record Accepts (w : Marks) (n : ℕ) (w' : Marks) : Type 0 where
  pub highest : w'.highest ≡ max w.highest n
  pub set : (k : ℕ) → w'.highest < k + 64 → accepted w' k ≡ (k == n || accepted w k)

-- a refusal leaves the window as it was
abbrev pub Leaves : Result (Unit {0}) WindowFault → Marks → ℕ → Marks → Type 0
Leaves (Ok x) w n w' = Accepts w n w'
Leaves (Err f) w n w' = w' ≡ w
