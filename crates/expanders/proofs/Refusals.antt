-- When an expander does not refuse.
use Rattle.std.proofs.Common.{◌≡◌, ℕ, ◌≤◌, ◌⊎◌, Err, refl, inl, inr, arith}
use Rattle.std.proofs.lemmas.Bool.Decides.{nat_tests}
use Rattle.expanders.specs.declared.domain.Domain.{Domain}
use Rattle.expanders.specs.declared.domain.Domain.TheVariants.{Right, Left}
use Rattle.expanders.specs.declared.fault.ExpanderFault.{ExpanderFault}
use Rattle.expanders.specs.Domains.{number_of}
use Rattle.expanders.specs.Refusals.{adding}

pub no-refusal : (reach domain end : ℕ) (f : ExpanderFault) → (domain ≡ 1) ⊎ (domain ≡ 2) → end ≤ reach → Err f ≡ adding reach domain end → ⊥
no-refusal reach domain end f d h e = grind (arith, nat_tests)

-- the number of a domain is one of the two that are known
pub number-known : (d : Domain) → (number_of d ≡ 1) ⊎ (number_of d ≡ 2)
number-known Right = inl refl
number-known Left = inr refl
