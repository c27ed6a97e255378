-- What a sealing is.
use Rattle.std.specs.Prelude.{◌≡◌, ℕ, ◌+◌, ◌^◌, ◌≤◌, List, ◌++◌, length}
use Rattle.octets.specs.Strings.{Bytes, be}
use Rattle.sealing.specs.Meaning.{Meaning}

-- the header hash of the line's name and the header
abbrev pub tag : Meaning → List ℕ → List ℕ
tag m header = m.hash (m.line ++ header)

-- the number's 8 bytes, and the tag and the text enciphered under them
abbrev pub record_of : Meaning → List ℕ → ℕ → List ℕ → List ℕ
record_of m header n text = be 8 n ++ m.enc (be 8 n) (tag m header ++ text)

-- `r` is a sealing for the header, of the text, under the number n
pub record IsSealing (m : Meaning) (header r : List ℕ) (n : ℕ) (text : List ℕ) : Type 0 where
  pub first : 1 ≤ n
  pub last : n ≤ 2 ^ 40
  pub bytes : Bytes text
  pub low : m.lowest ≤ 16 + length text
  pub high : 16 + length text ≤ m.highest
  pub is : r ≡ record_of m header n text
