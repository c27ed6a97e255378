-- What keeps a string a string of bytes.
use Rattle.std.proofs.Common.{ℕ, zero, suc, ◌-◌, ◌<◌, List, [], ◌∷◌, ◌++◌, reverse, length, take, drop, ⊎_elim, lit<}
use mathlib.Core.List.{reverse_aux}
use Rattle.std.specs.List.{AllByRecursion as All}
use Rattle.std.proofs.ByRecursion.{All-from_get_or, All-get_or, All-append, All-take, All-drop}
use Rattle.std.proofs.lemmas.List.{get_or_past}
use Rattle.std.proofs.lemmas.Bool.{cases_lt}
use Rattle.octets.specs.Strings.{Bytes, zeros, filled}

abbrev pub Below256 : ℕ → Type 0
Below256 x = x < 256

-- `Bytes` and the shelf's `All`
pub all-bytes : (xs : List ℕ) → Bytes xs → All Below256 xs
all-bytes xs b = All-from_get_or Below256 xs 0 (λ i _. b i)

pub bytes-all : (xs : List ℕ) → All Below256 xs → Bytes xs
bytes-all xs a k = ⊎_elim (λ l. All-get_or Below256 xs k 0 l a) (λ g. rw (get_or_past xs k 0 g) (lit< tt)) (cases_lt k (length xs))

pub bytes-append : (xs ys : List ℕ) → Bytes xs → Bytes ys → Bytes (xs ++ ys)
bytes-append xs ys p q = bytes-all (xs ++ ys) (All-append Below256 xs ys (all-bytes xs p) (all-bytes ys q))

pub bytes_take : (n : ℕ) (xs : List ℕ) → Bytes xs → Bytes (take n xs)
bytes_take n xs p = bytes-all (take n xs) (All-take Below256 n xs (all-bytes xs p))

pub bytes_drop : (n : ℕ) (xs : List ℕ) → Bytes xs → Bytes (drop n xs)
bytes_drop n xs p = bytes-all (drop n xs) (All-drop Below256 n xs (all-bytes xs p))

pub bytes-cons : (x : ℕ) (xs : List ℕ) → x < 256 → Bytes xs → Bytes (x ∷ xs)
bytes-cons x xs p q = bytes-all (x ∷ xs) (p, all-bytes xs q)

pub bytes-tail : (x : ℕ) (xs : List ℕ) → Bytes (x ∷ xs) → Bytes xs
bytes-tail x xs p = bytes-all xs (all-bytes (x ∷ xs) p).1

pub bytes-head : (x : ℕ) (xs : List ℕ) → Bytes (x ∷ xs) → x < 256
bytes-head x xs p = p 0

all-zeros : (n : ℕ) → All Below256 (zeros n)
all-zeros zero = tt
all-zeros (suc n) = (lit< tt, all-zeros n)

pub bytes-zeros : (n : ℕ) → Bytes (zeros n)
bytes-zeros n = bytes-all (zeros n) (all-zeros n)

all-reverse_aux : (xs ys : List ℕ) → All Below256 xs → All Below256 ys → All Below256 (reverse_aux xs ys)
all-reverse_aux [] ys p q = q
all-reverse_aux (x ∷ xs) ys p q = all-reverse_aux xs (x ∷ ys) p.1 (p.0, q)

pub bytes-reverse : (xs : List ℕ) → Bytes xs → Bytes (reverse xs)
bytes-reverse xs p = bytes-all (reverse xs) (all-reverse_aux xs [] (all-bytes xs p) tt)

pub bytes-filled : (n : ℕ) (xs : List ℕ) → Bytes xs → Bytes (filled n xs)
unfolding filled
bytes-filled n xs p = bytes-append (take n xs) (zeros (n - length xs)) (bytes_take n xs p) (bytes-zeros (n - length xs))
