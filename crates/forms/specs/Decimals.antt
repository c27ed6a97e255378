-- How a number stands in a line: 1 to 13 decimal digits.
use Rattle.std.specs.Prelude.{◌≡◌, ℕ, ◌+◌, ◌-◌, ◌*◌, ◌≤◌, List, [], ◌∷◌, length}

-- each is a decimal digit
abbrev pub Decimals : List ℕ → Type 0
Decimals [] = Unit {0}
Decimals (c ∷ cs) = (48 ≤ c) × (c ≤ 57) × Decimals cs

-- the number that the digits write after n
unfoldable pub valued : ℕ → List ℕ → ℕ
valued n [] = n
valued n (c ∷ cs) = valued (n * 10 + (c - 48)) cs

-- the digits write n
pub record Writes (n : ℕ) (ds : List ℕ) : Type 0 where
  pub digits : Decimals ds
  pub least : 1 ≤ length ds
  pub most : length ds ≤ 13
  pub value : n ≡ valued 0 ds
