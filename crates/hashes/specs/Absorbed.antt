-- What the code holds of a string on its way; no definition of a hash rests on it.
use Rattle.std.specs.Prelude.{◌≡◌, ℕ, ◌+◌, ◌*◌, List, length, drop}
use Rattle.octets.specs.Strings.{xor, zeros}
use Rattle.hashes.specs.Chain.{chained}

-- Of the string bs some whole blocks are chained, and the `fill` bytes after them are added to the sum.
pub record Taken (f : List ℕ → List ℕ) (bs sum : List ℕ) (fill : ℕ) : Type 0 where
  pub blocks : ℕ
  pub count : 16 * blocks + fill ≡ length bs
  pub total : sum ≡ xor (chained f blocks (zeros 16) bs) (drop (16 * blocks) bs)

-- The same where a whole block waits for more, so that `fill` is 0 for the empty string alone.
pub record Absorbed (f : List ℕ → List ℕ) (bs sum : List ℕ) (fill : ℕ) : Type 0 where
  pub taken : Taken f bs sum fill
  pub waits : fill ≡ 0 → length bs ≡ 0
