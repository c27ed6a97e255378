-- The number of each domain.
use Rattle.std.specs.Prelude.{ℕ, cond, Ok, Err, Result, ◌==◌}
use Rattle.expanders.specs.declared.domain.Domain.{Domain}
use Rattle.expanders.specs.declared.domain.Domain.TheVariants.{Right, Left}
use Rattle.expanders.specs.declared.fault.ExpanderFault.{ExpanderFault}
use Rattle.expanders.specs.declared.fault.ExpanderFault.TheVariants as fault

abbrev pub number_of : Domain → ℕ
number_of Right = 1
number_of Left = 2

-- any other number is refused
abbrev pub domain_of : ℕ → Result Domain ExpanderFault
domain_of n = cond (n == 1) (Ok Right) (cond (n == 2) (Ok Left) (Err (fault.Domain n)))
