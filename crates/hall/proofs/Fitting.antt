-- The byte strings of a line that was read fit areas of half the bytes that a line may have.
use Rattle.std.proofs.Common.{◌≡◌, ℕ, ◌*◌, ◌≤◌, List, [], ◌∷◌, ◌++◌, length, Ok, codes, Result, refl, ap, subst, arith, length-append}
use Rattle.forms.specs.Columns.{Reads}
use Rattle.forms.specs.Hex.{hexed, pairs}
use Rattle.forms.specs.Said.{asked_of, said}
use Rattle.forms.specs.Spelling.{Asked, Asks, draw, give_up, seal, receive}
use Rattle.forms.specs.declared.command.Command.{Command}
use Rattle.forms.specs.declared.unread.Unread.{Unread}
use Rattle.hall.specs.Steps.{Fits}

length_pairs : (b : List ℕ) → length (pairs b) ≡ 2 * length b
unfolding pairs
length_pairs [] = refl
length_pairs (x ∷ b) = let e = length_pairs b in omega arith

hexed-long : (b : List ℕ) → 2 * length b ≤ length (hexed b)
unfolding hexed
hexed-long [] = omega arith
hexed-long (x ∷ b) = let e = length_pairs (x ∷ b) in omega arith

-- two strings among what a line is made of
among : (n : ℕ) → 8192 ≤ n → (p q r t s : List ℕ) → length s ≤ 16384 → s ≡ p ++ hexed q ++ r ++ hexed t ++ codes "))" → (length q ≤ n) × (length t ≤ n)
among n room p q r t s long e =
    let l = simp length-append at (ap length e) in
    let a = hexed-long q in
    let b = hexed-long t in
    (omega arith, omega arith)

pub fits_read : (n : ℕ) → 8192 ≤ n → (a : Asked) (s : List ℕ) → Reads Asks s (Ok a) → Fits n a
fits_read n room draw s r = tt
fits_read n room give_up s r = tt
fits_read n room (seal header text) s (long, (bh, bt, e)) = among n room (codes "(seal (header ") header (codes ") (text ") text s long e
fits_read n room (receive header r) s (long, (bh, br, e)) = among n room (codes "(receive (header ") header (codes ") (record ") r s long e

-- those of a command that was read from the line s
pub fits-command : (n : ℕ) → 8192 ≤ n → (s : List ℕ) (r : Result Command Unread) (m : Command) → r ≡ Ok m → Reads Asks s (said asked_of r) → Fits n (asked_of m)
fits-command n room s r m e reads = fits_read n room (asked_of m) s (subst (λ x. Reads Asks s (said asked_of x)) e reads)
