-- How the parts of a line are taken, byte by byte. Only the contracts of inner functions speak of this.
use Rattle.std.specs.Prelude.{ℕ, zero, suc, ◌+◌, ◌-◌, ◌*◌, min, max, cond, List, [], ◌∷◌, ◌++◌, length, Some, None, Ok, Err, codes, Option, Result, ◌==◌, nat_le, nat_lt}
use Rattle.forms.specs.declared.opening.Pile.{Pile}
use Rattle.forms.specs.declared.opening.Pile.TheVariants.{A, B}
use Rattle.forms.specs.Hex.{nibbled}
use Rattle.forms.specs.Spelling.{Ends}

-- the value of a part and what is left of the line after it, or what is left of the line where it cannot go on
abbrev pub Got : Type 0 → Type 0
Got X = Result (X × List ℕ) (List ℕ)

abbrev pub Scan : Type 0 → Type 0
Scan X = List ℕ → Got X

-- nothing is taken
abbrev pub pure : {X : Type 0} → X → Scan X
pure x s = Ok (x, s)

abbrev pub onward : {X Y : Type 0} → (X → Scan Y) → Got X → Got Y
onward k (Ok g) = k g.0 g.1
onward k (Err t) = Err t

-- one part, and then what follows it
unfoldable pub bind : {X Y : Type 0} → Scan X → (X → Scan Y) → Scan Y
bind m k s = onward k (m s)

-- what a byte does: it is taken, or taken as the last one, or it cannot stand here
pub data Move (Q X : Type 0) : Type 0 where
  go : Q → Move Q X
  done : X → Move Q X
  stuck : Move Q X

abbrev pub follow : {Q X R : Type 0} → (Q → R) → (X → R) → R → Move Q X → R
follow f g r (go q) = f q
follow f g r (done x) = g x
follow f g r stuck = r

-- the bytes are taken one by one, from the state q
unfoldable pub run : {Q X : Type 0} → (Q → ℕ → Move Q X) → Q → Scan X
run step q [] = Err []
run step q (b ∷ s) = follow (λ r. run step r s) (λ x. Ok (x, s)) (Err (b ∷ s)) (step q b)

abbrev pub takes : {Q X Y : Type 0} → (Y → Move Q X) → Option Y → Move Q X
takes f None = stuck
takes f (Some y) = f y

-- one byte of which f has a value
unfoldable pub one : {X : Type 0} → (ℕ → Option X) → Scan X
one f = run (λ (_ : Unit {0}) b. takes done (f b)) tt

abbrev pub is : ℕ → ℕ → Option (Unit {0})
is b c = cond (c == b) (Some tt) None

unfoldable pub literal : List ℕ → Scan (Unit {0})
literal [] = pure tt
literal (b ∷ bs) = bind (one (is b)) (λ _. literal bs)

-- a line of n bytes: the value of a part that is the whole line, or the column of the first byte that is left
abbrev pub spent : {X : Type 0} → ℕ → X → List ℕ → Result X ℕ
spent n x [] = Ok x
spent n x (b ∷ t) = Err (n - length (b ∷ t) + 1)

abbrev pub whole : {X : Type 0} → ℕ → Got X → Result X ℕ
whole n (Ok g) = spent n g.0 g.1
whole n (Err t) = Err (n - length t + 1)

-- one of two forms: the one that was read, or else the greater column
abbrev pub either : {F : Type 0} → Result F ℕ → Result F ℕ → Result F ℕ
either (Ok f) r = Ok f
either (Err c) (Ok f) = Ok f
either (Err c) (Err d) = Err (max c d)

-- a line of n bytes is not too long
abbrev pub limited : {F : Type 0} → ℕ → Result F ℕ → Result F ℕ
limited n (Ok f) = cond (nat_le n 16384) (Ok f) (Err 16385)
limited n (Err c) = Err (min c 16385)

-- the number that a decimal digit stands for
abbrev pub tenth : ℕ → Option ℕ
tenth c = cond (nat_lt c 48) None (cond (nat_lt c 58) (Some (c - 48)) None)

-- two digits
unfoldable pub byte : Scan ℕ
byte = bind (one nibbled) (λ high. bind (one nibbled) (λ low. pure (high * 16 + low)))

-- two digits for each of n bytes, after the bytes so far
unfoldable pub bytes : ℕ → List ℕ → Scan (List ℕ)
bytes zero so_far = pure so_far
bytes (suc n) so_far = bind byte (λ b. bytes n (so_far ++ b ∷ []))

-- a byte string and the byte that closes it
pub data Hexing : Type 0 where
  start : Hexing
  dash : Hexing
  even : List ℕ → Hexing
  odd : List ℕ → ℕ → Hexing

abbrev pub hexing : ℕ → Hexing → ℕ → Move Hexing (List ℕ)
hexing close start b = cond (b == 45) (go dash) (takes (λ high. go (odd [] high)) (nibbled b))
hexing close dash b = cond (b == close) (done []) stuck
hexing close (even so_far) b = cond (b == close) (done so_far) (takes (λ high. go (odd so_far high)) (nibbled b))
hexing close (odd so_far high) b = takes (λ low. go (even (so_far ++ (high * 16 + low) ∷ []))) (nibbled b)

abbrev pub hex : ℕ → Scan (List ℕ)
hex close = run (hexing close) start

-- a number and the `)` that closes it: no digit so far, or some, how many more there may be, and the number so far
pub data Counting : Type 0 where
  none : Counting
  some : ℕ → ℕ → Counting

abbrev pub another : ℕ → ℕ → Move Counting ℕ
another zero v = stuck
another (suc n) v = go (some n v)

abbrev pub counting : Counting → ℕ → Move Counting ℕ
counting none b = takes (λ d. go (some 12 d)) (tenth b)
counting (some n v) b = cond (b == 41) (done v) (takes (λ d. another n (v * 10 + d)) (tenth b))

abbrev pub number : Scan ℕ
number = run counting none

-- the parts of the first line
abbrev pub piled : ℕ → Option Pile
piled c = cond (c == 97) (Some A) (cond (c == 98) (Some B) None)

unfoldable pub keys : Scan (List ℕ × List ℕ × List ℕ)
keys = bind (literal (codes ") (keys ")) (λ _. bind (hex 32) (λ hash. bind (hex 32) (λ expander. bind (hex 41) (λ header. pure (hash, expander, header)))))

unfoldable pub line_name : Scan (List ℕ)
line_name = bind (literal (codes " (line ")) (λ _. bind (bytes 8 []) (λ name. bind (literal (codes ")")) (λ _. pure name)))

unfoldable pub first_number : Scan ℕ
first_number = bind (literal (codes " (first ")) (λ _. bind number (λ first. bind (literal (codes ")")) (λ _. pure first)))

abbrev pub opened : Pile → List ℕ × List ℕ × List ℕ → List ℕ → ℕ → Ends
opened pile k line first = record { pile = pile; hash_key = k.0; expander_key = k.1; header_key = k.2; line = line; first = first }

unfoldable pub ends : Scan Ends
ends = bind (literal (codes "(ends (pile ")) (λ _. bind (one piled) (λ pile. bind keys (λ k. bind line_name (λ line. bind first_number (λ first. pure (opened pile k line first))))))

-- a form that is one word
unfoldable pub word : {F : Type 0} → List ℕ → F → Scan F
word text f = bind (literal text) (λ _. pure f)

-- two byte strings, each in brackets, and the bracket that closes the form: what stands before each is given
unfoldable pub strings : List ℕ → List ℕ → Scan (List ℕ × List ℕ)
strings before between = bind (literal before) (λ _. bind (hex 41) (λ first. bind (literal between) (λ _. bind (hex 41) (λ second. bind (literal (codes ")")) (λ _. pure (first, second))))))

-- a form of two byte strings
unfoldable pub of_strings : {F : Type 0} → List ℕ → List ℕ → (List ℕ → List ℕ → F) → Scan F
of_strings before between form = bind (strings before between) (λ p. pure (form p.0 p.1))
