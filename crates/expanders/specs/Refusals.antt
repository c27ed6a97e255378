-- When an expander refuses, what it leaves, and what each fault tells.
use Rattle.std.specs.Prelude.{ℕ, cond, List, Ok, Err, Result, ◌==◌, nat_lt}
use Rattle.octets.specs.Strings.{xor}
use Rattle.refusals.specs.Table.{alone, domain, past_reach}
use Rattle.refusals.specs.declared.Refusal.{Refusal}
use Rattle.expanders.specs.declared.fault.ExpanderFault.{ExpanderFault}
use Rattle.expanders.specs.declared.fault.ExpanderFault.TheVariants.{Domain, PastReach}
use Rattle.expanders.specs.declared.fault.PastReach as past

-- a stretch may not end past the reach
abbrev pub reaching : ℕ → ℕ → Result (Unit {0}) past.PastReach
reaching reach end = cond (nat_lt reach end) (Err (record { 0 = reach })) (Ok tt)

abbrev pub widened : Result (Unit {0}) past.PastReach → Result (Unit {0}) ExpanderFault
widened (Ok x) = Ok x
widened (Err f) = Err (PastReach f)

-- first the domain, 1 or 2, then the end of the stretch
abbrev pub adding : ℕ → ℕ → ℕ → Result (Unit {0}) ExpanderFault
adding reach domain end =
    cond (domain == 1) (widened (reaching reach end)) (cond (domain == 2) (widened (reaching reach end)) (Err (Domain domain)))

-- a refusal leaves the stretch as it was
abbrev pub added : Result (Unit {0}) ExpanderFault → List ℕ → List ℕ → List ℕ
added (Ok x) stretch sequence = xor stretch sequence
added (Err f) stretch sequence = stretch

abbrev pub told : ExpanderFault → Refusal
told (Domain n) = alone (domain n)
told (PastReach p) = alone (past_reach p.0)
