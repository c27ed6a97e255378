-- What may be asked of an expander.
use Rattle.std.specs.Prelude.{◌≡◌, ℕ, ◌⊎◌, List, length}
use Rattle.octets.specs.Strings.{Bytes}

pub record Asked (domain : ℕ) (tweak input : List ℕ) : Type 0 where
  pub known : (domain ≡ 1) ⊎ (domain ≡ 2)
  pub tweak_long : length tweak ≡ 8
  pub tweak_bytes : Bytes tweak
  pub input_long : length input ≡ 16
  pub input_bytes : Bytes input
