-- Where a line cannot go on, and what it is to read a line.
use Rattle.std.specs.Prelude.{◌≡◌, ℕ, ◌+◌, ◌-◌, ◌<◌, ◌≤◌, ◌⊎◌, List, ◌++◌, length, take, Ok, Err, Result}

-- s begins an allowed line
abbrev pub Begins : (List ℕ → Type 0) → List ℕ → Type 0
Begins L s = (rest : List ℕ) × L (s ++ rest)

-- The line s cannot go on at the column c, counted from 1. What stands before c begins an allowed line, and at c comes a byte that no
-- allowed line has there; or the end of s, where s is no allowed line; or a byte past the limit.
pub record Stops (L : List ℕ → Type 0) (s : List ℕ) (c : ℕ) : Type 0 where
  pub from : 1 ≤ c
  pub limited : c ≤ 16385
  pub within : c ≤ length s + 1
  pub before : Begins L (take (c - 1) s)
  pub here : ((c ≤ length s) × (Begins L (take c s) → ⊥)) ⊎ (((c ≡ length s + 1) × (L s → ⊥)) ⊎ ((c ≡ 16385) × (16384 < length s)))

-- the lines that are the spelling of some form
abbrev pub Lines : {F : Type 0} → (F → List ℕ → Type 0) → List ℕ → Type 0
Lines {F} Spelt w = (f : F) × Spelt f w

-- What reading the line s answers: a form that s is the spelling of, where s is not too long, or the column where s cannot go on.
abbrev pub Reads : {F : Type 0} → (F → List ℕ → Type 0) → List ℕ → Result F ℕ → Type 0
Reads Spelt s (Ok f) = (length s ≤ 16384) × Spelt f s
Reads Spelt s (Err c) = Stops (Lines Spelt) s c

-- no other answer is read from s
abbrev pub Only : {F : Type 0} → (F → List ℕ → Type 0) → List ℕ → Result F ℕ → Type 0
Only {F} Spelt s r = (q : Result F ℕ) → Reads Spelt s q → q ≡ r
