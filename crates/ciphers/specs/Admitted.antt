-- What may be asked of a wide cipher.
use Rattle.std.specs.Prelude.{◌≡◌, ℕ, ◌≤◌, List, length}
use Rattle.octets.specs.Strings.{Bytes}

-- a tweak of 8 bytes, and a byte string of a length from the lowest to the highest
pub record Admitted (lowest highest : ℕ) (tweak s : List ℕ) : Type 0 where
  pub tweak_long : length tweak ≡ 8
  pub tweak_bytes : Bytes tweak
  pub low : lowest ≤ length s
  pub high : length s ≤ highest
  pub bytes : Bytes s
