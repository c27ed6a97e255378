-- Blocks of 16 bytes, chained.
use Rattle.std.specs.Prelude.{ℕ, zero, suc, List, take, drop}
use Rattle.octets.specs.Strings.{xor}

-- From s, each of the n first blocks X of a string gives f (s ⊕ X).
unfoldable pub chained : (List ℕ → List ℕ) → ℕ → List ℕ → List ℕ → List ℕ
chained f zero s bs = s
chained f (suc n) s bs = chained f n (f (xor s (take 16 bs))) (drop 16 bs)
