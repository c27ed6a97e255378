-- The ticket held, and the number that is outstanding.
use Rattle.std.specs.Prelude.{ℕ, Bool, true, false, Some, None, Option, ◌==◌}
use Rattle.ends.specs.declared.ticket.Ticket.{Ticket}

-- whether the ticket held is the one that is out, or none is held and none is out
abbrev pub holds_out : Option Ticket → Option ℕ → Bool
holds_out None None = true
holds_out None (Some n) = false
holds_out (Some t) None = false
holds_out (Some t) (Some n) = t.number == n
