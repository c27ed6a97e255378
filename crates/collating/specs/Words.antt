-- The words of a line, which single spaces part, and what a word writes.
use Rattle.std.specs.Prelude.{ℕ, cond, List, [], ◌∷◌, length, Some, None, codes, Option, option_map, option_and_then, ◌==◌, nat_lt}
use Rattle.std.specs.Borrow.{Bor}
use Rattle.std.specs.Char.{is_ascii_digit}
use Rattle.std.specs.List.{before_first, after_first, list_all}
use Rattle.octets.specs.Strings.{same}
use Rattle.forms.specs.Decimals.{valued}
use Rattle.forms.specs.Hex.{spelled_by}
use Rattle.forms.specs.declared.opening.Pile.{Pile}
use Rattle.forms.specs.declared.opening.Pile.TheVariants.{A, B}
use Rattle.collating.specs.declared.outcome.Outcome.{Outcome}
use Rattle.collating.specs.declared.outcome.Outcome.TheVariants.{Bytes, Refused}
use Rattle.collating.specs.declared.question.ExpanderKind.{ExpanderKind}
use Rattle.collating.specs.declared.question.ExpanderKind.TheVariants.{Aes, ChaCha}

-- the bytes before the first space
unfoldable pub word : List ℕ → List ℕ
word s = before_first (λ b. b == 32) s

-- the bytes after it
unfoldable pub after : List ℕ → List ℕ
after s = after_first (λ b. b == 32) s

-- what stands beside a word in a table, the first time that it stands there
abbrev pub looked_up : {T : Type 0} → List ℕ → List (Bor (List ℕ) × T) → Option T
looked_up w [] = None
looked_up w (e ∷ es) = cond (same w e.0.now) (Some e.1) (looked_up w es)

-- a byte string of n bytes
abbrev pub of_length : ℕ → List ℕ → Option (List ℕ)
of_length n bytes = cond (length bytes == n) (Some bytes) None

abbrev pub sized : ℕ → List ℕ → Option (List ℕ)
sized n w = option_and_then (of_length n) (spelled_by w)

-- the number that 1 to 13 digits write
abbrev pub number_of : List ℕ → Option ℕ
number_of w = cond (length w == 0) None (cond (nat_lt 13 (length w)) None (cond (list_all is_ascii_digit w) (Some (valued 0 w)) None))

-- one that is at most `most`
abbrev pub at_most : ℕ → ℕ → Option ℕ
at_most most n = cond (nat_lt most n) None (Some n)

abbrev pub number_to : ℕ → List ℕ → Option ℕ
number_to most w = option_and_then (at_most most) (number_of w)

abbrev pub pile_of : List ℕ → Option Pile
pile_of w = cond (same w (codes "a")) (Some A) (cond (same w (codes "b")) (Some B) None)

abbrev pub expander_of : List ℕ → Option ExpanderKind
expander_of w = cond (same w (codes "aes")) (Some Aes) (cond (same w (codes "chacha")) (Some ChaCha) None)

-- a refusal is `!` and its number, and anything else a byte string
abbrev pub outcome_of : List ℕ → Option (Outcome (List ℕ))
outcome_of [] = option_map Bytes (spelled_by [])
outcome_of (c ∷ w) = cond (c == 33) (option_map Refused (number_of w)) (option_map Bytes (spelled_by (c ∷ w)))
