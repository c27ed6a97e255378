-- What a verdict says of a length.
use Rattle.std.proofs.Common.{◌≡◌, ℕ, ◌≤◌, Ok, Option, arith}
use Rattle.std.proofs.lemmas.Bool.Decides.{nat_tests}
use Rattle.expanders.specs.declared.fault.PastReach.{PastReach}
use Rattle.ciphers.specs.Refusals.{verdict}

pub within : (lowest highest n : ℕ) (carried : Option PastReach) (x : Unit {0}) → Ok x ≡ verdict lowest highest carried n → (lowest ≤ n) × (n ≤ highest)
within lowest highest n carried x e = (grind (arith, nat_tests), grind (arith, nat_tests))

pub admitted : (lowest highest n : ℕ) (carried : Option PastReach) → lowest ≤ n → n ≤ highest → verdict lowest highest carried n ≡ Ok tt
admitted lowest highest n carried l h = grind (arith, nat_tests)
