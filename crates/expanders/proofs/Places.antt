-- Positions in a sequence of blocks of N bytes.
use Rattle.std.proofs.Common.{◌≡◌, ℕ, ◌+◌, ◌*◌, ◌/◌, ◌%◌, ◌<◌, ◌≤◌, min, Ok, arith}
use Rattle.std.proofs.lemmas.Bool.Decides.{nat_tests}
use Rattle.std.proofs.lemmas.Grind.{div_ceil_times}
use Rattle.expanders.specs.Refusals.{adding}

-- a block before the end, and after the last one the end is reached
pub touched : (N end j : ℕ) → 0 < N → j < end / N + min 1 (end % N) → N * j < end
touched N end j h l = grind (arith, div_ceil_times end N h)

pub reached : (N end j : ℕ) → 0 < N → end / N + min 1 (end % N) ≤ j → end ≤ N * j
reached N end j h l = grind (arith, div_ceil_times end N h)

-- what is not refused ends within the reach
pub within : (reach domain end : ℕ) (x : Unit {0}) → Ok x ≡ adding reach domain end → end ≤ reach
within reach domain end x e = grind (arith, nat_tests)
