-- When a wide cipher refuses, and what it leaves.
use Rattle.std.specs.Prelude.{ℕ, ◌+◌, cond, List, Some, None, Ok, Err, Option, Result, nat_lt}
use Rattle.expanders.specs.declared.fault.PastReach.{PastReach}
use Rattle.refusals.specs.Table as table
use Rattle.refusals.specs.declared.Reason.{Reason}
use Rattle.refusals.specs.declared.Refusal.{Refusal}
use Rattle.ciphers.specs.declared.fault.CipherFault.{CipherFault}
use Rattle.ciphers.specs.declared.fault.CipherFault.TheVariants.{Short, Long}

-- first whether the length is below the lowest, then whether it is above the highest
abbrev pub verdict : ℕ → ℕ → Option PastReach → ℕ → Result (Unit {0}) CipherFault
verdict lowest highest carried n =
    cond (nat_lt n lowest) (Err (Short lowest)) (cond (nat_lt highest n) (Err (Long highest carried)) (Ok tt))

-- a refusal leaves the string as it was
abbrev pub kept : Result (Unit {0}) CipherFault → List ℕ → List ℕ → List ℕ
kept (Ok x) was new = new
kept (Err f) was new = was

abbrev pub past_reach : ℕ → PastReach
past_reach reach = record { 0 = reach }

-- the refusal of a cipher whose strings go 16 bytes past the reach of its expander
abbrev pub carrying : PastReach → CipherFault
carrying f = Long (f.0 + 16) (Some f)

-- what each fault tells
abbrev pub carried_reason : Option PastReach → Option Reason
carried_reason None = None
carried_reason (Some f) = Some (table.past_reach f.0)

abbrev pub told : CipherFault → Refusal
told (Short lowest) = table.alone (table.below_lowest lowest)
told (Long highest carried) = record { reason = table.above_highest highest; carried = carried_reason carried }
