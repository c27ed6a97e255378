-- How a byte string stands in a line: two lower-case hexadecimal digits for each byte, or `-` where there is none.
use Rattle.std.specs.Prelude.{◌≡◌, ℕ, ◌+◌, ◌-◌, ◌*◌, ◌/◌, ◌%◌, Bool, not, cond, List, [], ◌∷◌, length, is_some, Some, None, codes, Option, ◌==◌, ◌&&◌, ◌≢◌, nat_lt}
use Rattle.octets.specs.Strings.{Bytes}
use Rattle.std.specs.List.{list_all}
use Rattle.std.specs.Option.{unwrap_or}
use Rattle.std.specs.Str.{bytes_eq}

-- the digit of a number below 16
abbrev pub digit : ℕ → ℕ
digit d = cond (nat_lt d 10) (48 + d) (87 + d)

-- two digits for each byte
unfoldable pub pairs : List ℕ → List ℕ
pairs [] = []
pairs (b ∷ bs) = digit (b / 16) ∷ digit (b % 16) ∷ pairs bs

-- the same, or `-` where there is none
unfoldable pub hexed : List ℕ → List ℕ
hexed [] = 45 ∷ []
hexed (b ∷ bs) = pairs (b ∷ bs)

-- the number that a digit stands for
abbrev pub nibbled : ℕ → Option ℕ
nibbled c = cond (nat_lt c 48) None (cond (nat_lt c 58) (Some (c - 48)) (cond (nat_lt c 97) None (cond (nat_lt c 103) (Some (c - 87)) None)))

-- the same, and 0 for what is no digit
abbrev pub worth : ℕ → ℕ
worth c = unwrap_or (nibbled c) 0

-- the bytes that a spelling stands for: a byte for each two digits, and none for `-`
unfoldable pub unhexed : List ℕ → List ℕ
unhexed [] = []
unhexed (c ∷ []) = []
unhexed (h ∷ l ∷ cs) = (worth h * 16 + worth l) ∷ unhexed cs

-- whether each byte is a digit
abbrev pub digits : List ℕ → Bool
digits cs = list_all (λ c. is_some (nibbled c)) cs

-- whether a word is two digits for each of one byte or more
abbrev pub paired : List ℕ → Bool
paired w = not (length w == 0) && (length w % 2 == 0) && digits w

-- the bytes that a whole word spells, if it is a spelling
abbrev pub spelled_by : List ℕ → Option (List ℕ)
spelled_by w = cond (bytes_eq w (codes "-")) (Some []) (cond (paired w) (Some (unhexed w)) None)

-- the word w spells the byte string that was read of it, or none
abbrev pub Spelt : List ℕ → Option (List ℕ) → Type 0
Spelt w (Some b) = Bytes b × (w ≡ hexed b)
Spelt w None = (b : List ℕ) → Bytes b → w ≢ hexed b
