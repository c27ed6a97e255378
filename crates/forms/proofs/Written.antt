-- A byte string written digit by digit.
use Rattle.std.proofs.Common.{◌≡◌, ℕ, ◌+◌, ◌-◌, ◌/◌, ◌%◌, ◌^◌, ◌<◌, ◌≤◌, false, List, [], ◌∷◌, ◌++◌, length, get_or, take, sym, refl, ap, ◌∙◌, arith}
use Rattle.std.proofs.Output.{has_written_append, has_written_of_eq, writes_in_calls_nil}
use Rattle.std.proofs.lemmas.Fmt.{hex_byte}
use Rattle.std.proofs.lemmas.List.{take_all, take_more}
use Rattle.std.specs.Fmt.{IsPlainFormatter, HasWritten, padded_integral, format_spec, digits}
use Rattle.std.specs.declared.fmt.Formatter.{Formatter}
use Rattle.forms.specs.Hex.{digit, pairs, hexed}

pairs-snoc : (bs : List ℕ) (b : ℕ) → pairs bs ++ digit (b / 16) ∷ digit (b % 16) ∷ [] ≡ pairs (bs ++ b ∷ [])
unfolding pairs
pairs-snoc [] b = refl
pairs-snoc (x ∷ bs) b = ap (λ (l : List ℕ). digit (x / 16) ∷ digit (x % 16) ∷ l) (pairs-snoc bs b)

module _ {W : Type 0} (took : W → List ℕ → W → Type 0) where
  -- no bytes
  pub hex-empty : (f r : Formatter W) (xs : List ℕ) → length xs ≡ 0 → HasWritten took f (45 ∷ []) r → HasWritten took f (hexed xs) r
  unfolding hexed
  hex-empty f r [] none one = one
  hex-empty f r (x ∷ xs) none one = absurd (omega arith)

  -- no digits yet
  pub hex-none : (f : Formatter W) → IsPlainFormatter f → HasWritten took f (pairs []) f
  unfolding pairs
  hex-none f p = record { wrote = writes_in_calls_nil took _; plain = p }

  -- the two digits of one more byte
  pub hex-more : (f p r : Formatter W) (xs : List ℕ) (i : ℕ) → i < length xs → get_or xs i 0 < 256 → HasWritten took f (pairs (take i xs)) p → HasWritten took p (padded_integral (format_spec 32 0 4 2 (2 ^ 64 - 1)) false [] (digits 16 false (get_or xs i 0))) r → HasWritten took f (pairs (take (i + 1) xs)) r
  hex-more f p r xs i inside fits one two =
      let b = get_or xs i 0 in
      has_written_of_eq took f _ _ r (ap (λ (l : List ℕ). pairs (take i xs) ++ l) (hex_byte false b fits) ∙ pairs-snoc (take i xs) b ∙ ap pairs (sym (take_more xs i 0 inside))) (has_written_append took f _ p _ r one two)

  -- all bytes
  pub hex-all : (f r : Formatter W) (xs : List ℕ) (i : ℕ) → length xs ≤ i → 0 < length xs → HasWritten took f (pairs (take i xs)) r → HasWritten took f (hexed xs) r
  unfolding hexed
  hex-all f r [] i all some one = absurd (omega arith)
  hex-all f r (x ∷ xs) i all some one = has_written_of_eq took f _ _ r (ap pairs (take_all i (x ∷ xs) all)) one
