-- How the forms are spelt.
use Rattle.std.specs.Prelude.{◌≡◌, ℕ, List, ◌++◌, length, codes}
use Rattle.octets.specs.Strings.{Bytes}
use Rattle.forms.specs.declared.opening.Pile.{Pile}
use Rattle.forms.specs.declared.opening.Pile.TheVariants.{A, B}
use Rattle.forms.specs.Decimals.{Writes}
use Rattle.forms.specs.Hex.{hexed, pairs}

-- what the first line says
pub record Ends : Type 0 where
  pub pile : Pile
  pub hash_key : List ℕ
  pub expander_key : List ℕ
  pub header_key : List ℕ
  pub line : List ℕ
  pub first : ℕ

abbrev pub letter : Pile → List ℕ
letter A = codes "a"
letter B = codes "b"

-- w is the spelling of a first line: the keys are byte strings, the name of the line is 8 bytes, and some digits write the first number
pub record Opens (o : Ends) (w : List ℕ) : Type 0 where
  pub hash_key : Bytes o.hash_key
  pub expander_key : Bytes o.expander_key
  pub header_key : Bytes o.header_key
  pub line : Bytes o.line
  pub eight : length o.line ≡ 8
  pub digits : List ℕ
  pub first : Writes o.first digits
  pub spelt : w ≡ codes "(ends (pile " ++ letter o.pile ++ codes ") (keys " ++ hexed o.hash_key ++ codes " " ++ hexed o.expander_key ++ codes " " ++ hexed o.header_key ++ codes ") (line " ++ pairs o.line ++ codes ") (first " ++ digits ++ codes "))"

-- what a later line says
pub data Asked : Type 0 where
  draw : Asked
  give_up : Asked
  -- the header and the text
  seal : List ℕ → List ℕ → Asked
  -- the header and the record
  receive : List ℕ → List ℕ → Asked

abbrev pub Asks : Asked → List ℕ → Type 0
Asks draw w = w ≡ codes "(draw)"
Asks give_up w = w ≡ codes "(give-up)"
Asks (seal header text) w = Bytes header × Bytes text × (w ≡ codes "(seal (header " ++ hexed header ++ codes ") (text " ++ hexed text ++ codes "))")
Asks (receive header «record») w = Bytes header × Bytes «record» × (w ≡ codes "(receive (header " ++ hexed header ++ codes ") (record " ++ hexed «record» ++ codes "))")
