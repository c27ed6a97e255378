-- What holds of byte strings, for any strings and numbers.
use Rattle.std.specs.Prelude.{◌≡◌, ℕ, ◌^◌, ◌<◌, true, List, ◌++◌, length}
use Rattle.octets.specs.Strings.{Bytes, xor, xor_at, le, be, le_value, be_value, filled, same}

pub record Laws : Type 0 where
  -- adding a string twice undoes it
  pub undone : (xs ys : List ℕ) → xor (xor xs ys) ys ≡ xs
  pub undone_at : (at : ℕ) (xs ys : List ℕ) → xor_at at (xor_at at xs ys) ys ≡ xs
  -- lengths
  pub xor_length : (xs ys : List ℕ) → length (xor xs ys) ≡ length xs
  pub xor_at_length : (at : ℕ) (xs ys : List ℕ) → length (xor_at at xs ys) ≡ length xs
  pub le_length : (k n : ℕ) → length (le k n) ≡ k
  pub be_length : (k n : ℕ) → length (be k n) ≡ k
  pub filled_length : (n : ℕ) (xs : List ℕ) → length (filled n xs) ≡ n
  -- bytes stay bytes
  pub xor_bytes : (xs ys : List ℕ) → Bytes xs → Bytes ys → Bytes (xor xs ys)
  pub xor_at_bytes : (at : ℕ) (xs ys : List ℕ) → Bytes xs → Bytes ys → Bytes (xor_at at xs ys)
  pub join_bytes : (xs ys : List ℕ) → Bytes xs → Bytes ys → Bytes (xs ++ ys)
  pub le_bytes : (k n : ℕ) → Bytes (le k n)
  pub be_bytes : (k n : ℕ) → Bytes (be k n)
  pub filled_bytes : (n : ℕ) (xs : List ℕ) → Bytes xs → Bytes (filled n xs)
  -- a number below 256^k and its k bytes determine each other
  pub le_value_le : (k n : ℕ) → n < 256 ^ k → le_value (le k n) ≡ n
  pub be_value_be : (k n : ℕ) → n < 256 ^ k → be_value (be k n) ≡ n
  pub le_le_value : (xs : List ℕ) → Bytes xs → le (length xs) (le_value xs) ≡ xs
  pub be_be_value : (xs : List ℕ) → Bytes xs → be (length xs) (be_value xs) ≡ xs
  pub be_once : (m n : ℕ) → m < 2 ^ 64 → n < 2 ^ 64 → be 8 m ≡ be 8 n → m ≡ n
  pub le_once : (m n : ℕ) → m < 2 ^ 64 → n < 2 ^ 64 → le 8 m ≡ le 8 n → m ≡ n
  -- the comparison
  pub same_is : (xs ys : List ℕ) → same xs ys ≡ true → xs ≡ ys
  pub is_same : (xs : List ℕ) → same xs xs ≡ true
