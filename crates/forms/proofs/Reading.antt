-- From what the reader answers to what reading a line is to answer.
use Rattle.std.proofs.Common.{◌≡◌, ℕ, ◌≤◌, Bool, true, false, cond, eqb, leb, ◌⊎◌, List, [], ◌∷◌, length, get_or, Ok, Err, codes, Result, sym, refl, ap, ◌∙◌, subst, ap₂, inl, inr, arith, length-append}
use Rattle.forms.specs.declared.reader.Stuck.{Stuck}
use Rattle.forms.specs.declared.unread.Unread.{Unread}
use Rattle.forms.specs.Columns.{Reads, Only}
use Rattle.forms.specs.Said.{bytes_of, asked_of, said}
use Rattle.forms.specs.declared.command.Command.{Command}
use Rattle.forms.specs.declared.hex.Hex.{Hex}
use Rattle.std.specs.Result.{MatchResult, IsOkAnd, result_and}
use Rattle.forms.specs.Scans.{Got, Scan, pure, onward, bind, whole, either, limited, ends, literal, word, strings, of_strings}
use Rattle.forms.specs.Spelling.{Ends, Opens, Asked, draw, give_up, seal, receive, Asks}
use Rattle.forms.specs.Taking.{taken}
use Rattle.forms.proofs.Halting.{Told, told-whole, told-iff, told-either, reads-limited, reads-once, once, spelt-whole}
use Rattle.forms.proofs.Lawful.{Lawful, ok-parts}
use Rattle.forms.proofs.Rests.{bind_ok, bind-err}
use Rattle.forms.proofs.Words.{lawful-ends, lawful-word, FormWord, lawful-of-strings}

-- what is left after a scan is no longer than the line
pub within : {X Y : Type 0} {V : Y → List ℕ → Type 0} {scan : Scan Y} → Lawful V scan → (of : X → Y) (r : Result X Stuck) (s t : List ℕ) → taken of r t ≡ scan s → length t ≤ length s
within l of (Ok x) s t e = let a = l.right (of x) s t (sym e) in let b = ap length a.2 in let c = length-append a.0 t in omega arith
within l of (Err u) s t e = let a = l.begins s t (sym e) in let b = ap length a.4 in let c = length-append a.0 t in omega arith

module _ {X Y : Type 0} (of : X → Y) where
  abbrev mapped : Result X ℕ → Result Y ℕ
  mapped (Ok x) = Ok (of x)
  mapped (Err c) = Err c

  said-mapped : (r : Result X Unread) → said of r ≡ mapped (said (λ x. x) r)
  said-mapped (Ok x) = refl
  said-mapped (Err u) = refl

  whole-mapped : (n : ℕ) (r : Result X Stuck) (t : List ℕ) → mapped (whole n (taken (λ x. x) r t)) ≡ whole n (taken of r t)
  whole-mapped n (Ok x) [] = refl
  whole-mapped n (Ok x) (b ∷ t) = refl
  whole-mapped n (Err u) t = refl

  limited-mapped : (n : ℕ) (r : Result X ℕ) → mapped (limited n r) ≡ limited n (mapped r)
  limited-mapped n (Ok x) = cond-push (leb n 16384)
    where
      cond-push : (b : Bool) → mapped (cond b (Ok x) (Err 16385)) ≡ cond b (Ok (of x)) (Err 16385)
      cond-push b = elim b as (λ v. mapped (cond v (Ok x) (Err 16385)) ≡ cond v (Ok (of x)) (Err 16385)) [ true ↦ refl | false ↦ refl ]
  limited-mapped n (Err c) = refl

  either-mapped : (a b : Result X ℕ) → mapped (either a b) ≡ either (mapped a) (mapped b)
  either-mapped (Ok x) b = refl
  either-mapped (Err c) (Ok x) = refl
  either-mapped (Err c) (Err d) = refl

  -- the same of what the forms say
  pub finished : (n : ℕ) (form : Result X Stuck) (t : List ℕ) (r : Result X Unread) (g : Got Y) → said (λ x. x) r ≡ whole n (taken (λ x. x) form t) → taken of form t ≡ g → said of r ≡ whole n g
  finished n form t r g e f = said-mapped r ∙ ap mapped e ∙ whole-mapped n form t ∙ ap (whole n) f

  pub within-limit : (n : ℕ) (q r : Result X Unread) → said (λ x. x) r ≡ limited n (said (λ x. x) q) → said of r ≡ limited n (said of q)
  within-limit n q r e = said-mapped r ∙ ap mapped e ∙ limited-mapped n (said (λ x. x) q) ∙ ap (limited n) (sym (said-mapped q))

  pub one_of : (a b r : Result X Unread) → said (λ x. x) r ≡ either (said (λ x. x) a) (said (λ x. x) b) → said of r ≡ either (said of a) (said of b)
  one_of a b r e = said-mapped r ∙ ap mapped e ∙ either-mapped (said (λ x. x) a) (said (λ x. x) b) ∙ sym (ap₂ either (said-mapped a) (said-mapped b))

  whole-made : (n : ℕ) (m : Scan X) (s : List ℕ) → whole n (bind m (λ x. pure (of x)) s) ≡ mapped (whole n (m s))
  unfolding bind
  whole-made n m s = at (m s)
    where
      at : (g : Got X) → whole n (onward (λ x. pure (of x)) g) ≡ mapped (whole n g)
      at (Ok (x, [])) = refl
      at (Ok (x, b ∷ t)) = refl
      at (Err t) = refl

-- what a map of an `Ok` gives
pub ok-is : {X E : Type 0} (r : Result X E) (P : X → Type 0) (k : X) → IsOkAnd r P → ((x : X) → P x → x ≡ k) → r ≡ Ok k
ok-is (Ok x) P k b one = ap Ok (one x b)
ok-is (Err e) P k b one = absurd b

-- a form of one word
pub made_word : (r : Result (Unit {0}) Stuck) (t text s : List ℕ) (k : Command) → taken (λ x. x) r t ≡ literal text s → taken asked_of (result_and r (Ok k)) t ≡ word text (asked_of k) s
unfolding word
made_word (Ok x) t text s k e = sym (bind_ok _ _ s t tt e)
made_word (Err x) t text s k e = bind-err _ _ s t e

-- a form of two byte strings, or its column
made_from : (form : List ℕ → List ℕ → Asked) (before between : List ℕ) (n : ℕ) (s : List ℕ) (r : Result (List ℕ × List ℕ) ℕ) → r ≡ whole n (strings before between s) → mapped (λ p. form p.0 p.1) r ≡ whole n (of_strings before between form s)
unfolding of_strings
made_from form before between n s r e = ap (mapped (λ p. form p.0 p.1)) e ∙ sym (whole-made (λ p. form p.0 p.1) n (strings before between) s)

module _ (make : Hex → Hex → Command) (form : List ℕ → List ℕ → Asked) (says : (a b : Hex) → asked_of (make a b) ≡ form (bytes_of a) (bytes_of b)) where
  made_pair : (r : Result (Hex × Hex) Unread) (q : Result Command Unread) → MatchResult r (λ p. q ≡ Ok (make p.0 p.1)) (λ u. q ≡ Err u) → said asked_of q ≡ mapped {X = List ℕ × List ℕ} (λ p. form p.0 p.1) (said (λ p. (bytes_of p.0, bytes_of p.1)) r)
  made_pair (Ok p) q m = ap (said asked_of) m ∙ ap Ok (says p.0 p.1)
  made_pair (Err u) q m = ap (said asked_of) m

  pub made_of : (r : Result (Hex × Hex) Unread) (q : Result Command Unread) (before between : List ℕ) (n : ℕ) (s : List ℕ) → MatchResult r (λ p. q ≡ Ok (make p.0 p.1)) (λ u. q ≡ Err u) → said (λ p. (bytes_of p.0, bytes_of p.1)) r ≡ whole n (strings before between s) → said asked_of q ≡ whole n (of_strings before between form s)
  made_of r q before between n s m e = made_pair r q m ∙ made_from form before between n s _ e

-- an answer that is read from a line, and the only one
pub record Read {F : Type 0} (V : F → List ℕ → Type 0) (s : List ℕ) (a : Result F ℕ) : Type 0 where
  pub reads : Reads V s a
  pub only : Only V s a

read : {F : Type 0} (V : F → List ℕ → Type 0) (s : List ℕ) → ((f g : F) → V f s → V g s → f ≡ g) → (t a : Result F ℕ) → Told V s t → a ≡ limited (length s) t → Read V s a
read V s one t a told e =
    let h : Reads V s a = subst (Reads V s) (sym e) (reads-limited V s t told) in
    record { reads = h; only = λ q k. reads-once V s one q a k h }

pub opening-read : (s : List ℕ) (a : Result Ends ℕ) → a ≡ limited (length s) (whole (length s) (ends s)) → Read Opens s a
opening-read s a e = read Opens s (λ f g. once lawful-ends f g s) (whole (length s) (ends s)) a (told-whole lawful-ends s) e

-- the forms of a later line
abbrev drawing : Scan Asked
drawing = word (codes "(draw)") draw

abbrev giving_up_scan : Scan Asked
giving_up_scan = word (codes "(give-up)") give_up

abbrev sealing : Scan Asked
sealing = of_strings (codes "(seal (header ") (codes " (text ") seal

abbrev receiving : Scan Asked
receiving = of_strings (codes "(receive (header ") (codes " (record ") receive

-- a form that is one word
abbrev Word : Asked → List ℕ → Asked → List ℕ → Type 0
Word f text g w = (g ≡ f) × (w ≡ text)

abbrev Draws : Asked → List ℕ → Type 0
Draws = Word draw (codes "(draw)")

abbrev GivesUp : Asked → List ℕ → Type 0
GivesUp = Word give_up (codes "(give-up)")

abbrev Seals : Asked → List ℕ → Type 0
Seals = FormWord (codes "(seal (header ") (codes " (text ") seal

abbrev Receives : Asked → List ℕ → Type 0
Receives = FormWord (codes "(receive (header ") (codes " (record ") receive

lawful-draw : Lawful Draws drawing
lawful-draw = lawful-word (codes "(draw)") draw

lawful-give-up : Lawful GivesUp giving_up_scan
lawful-give-up = lawful-word (codes "(give-up)") give_up

lawful-seal : Lawful Seals sealing
lawful-seal = lawful-of-strings (codes "(seal (header ") (codes " (text ") seal

lawful-receive : Lawful Receives receiving
lawful-receive = lawful-of-strings (codes "(receive (header ") (codes " (record ") receive

-- the first letter of a line tells which form it can be
abbrev by_letter : ℕ → Scan Asked
by_letter c = cond (eqb c 100) drawing (cond (eqb c 103) giving_up_scan (cond (eqb c 115) sealing receiving))

scanned : (s : List ℕ) (f : Asked) → Asks f s → by_letter (get_or s 1 0) s ≡ Ok (f, [])
scanned s draw v = ap (λ (l : List ℕ). by_letter (get_or l 1 0) s) v ∙ spelt-whole lawful-draw draw s (refl, v)
scanned s give_up v = ap (λ (l : List ℕ). by_letter (get_or l 1 0) s) v ∙ spelt-whole lawful-give-up give_up s (refl, v)
scanned s (seal a b) v = ap (λ (l : List ℕ). by_letter (get_or l 1 0) s) v.2 ∙ spelt-whole lawful-seal (seal a b) s (a, b, refl, v)
scanned s (receive a b) v = ap (λ (l : List ℕ). by_letter (get_or l 1 0) s) v.2 ∙ spelt-whole lawful-receive (receive a b) s (a, b, refl, v)

asks-once : (s : List ℕ) (f g : Asked) → Asks f s → Asks g s → f ≡ g
asks-once s f g v w = (ok-parts (sym (scanned s f v) ∙ scanned s g w)).0

-- the forms of a later line, one after another
abbrev Words : Asked → List ℕ → Type 0
Words f w = Draws f w ⊎ GivesUp f w

abbrev Strings : Asked → List ℕ → Type 0
Strings f w = Seals f w ⊎ Receives f w

abbrev Forms : Asked → List ℕ → Type 0
Forms f w = Words f w ⊎ Strings f w

to-asks : (f : Asked) (w : List ℕ) → Forms f w → Asks f w
to-asks f w (inl (inl (e, i))) = subst (λ g. Asks g w) (sym e) i
to-asks f w (inl (inr (e, i))) = subst (λ g. Asks g w) (sym e) i
to-asks f w (inr (inl (a, b, e, i))) = subst (λ g. Asks g w) (sym e) i
to-asks f w (inr (inr (a, b, e, i))) = subst (λ g. Asks g w) (sym e) i

from-asks : (f : Asked) (w : List ℕ) → Asks f w → Forms f w
from-asks draw w i = inl (inl (refl, i))
from-asks give_up w i = inl (inr (refl, i))
from-asks (seal a b) w i = inr (inl (a, b, refl, i))
from-asks (receive a b) w i = inr (inr (a, b, refl, i))

pub command-read : (s : List ℕ) (a : Result Asked ℕ) → a ≡ limited (length s) (either (either (whole (length s) (drawing s)) (whole (length s) (giving_up_scan s))) (either (whole (length s) (sealing s)) (whole (length s) (receiving s)))) → Read Asks s a
command-read s a e =
    let d = whole (length s) (drawing s) in
    let g = whole (length s) (giving_up_scan s) in
    let m = whole (length s) (sealing s) in
    let r = whole (length s) (receiving s) in
    let words : Told Words s (either d g) = told-either Draws GivesUp s d g (told-whole lawful-draw s) (told-whole lawful-give-up s) in
    let strings : Told Strings s (either m r) = told-either Seals Receives s m r (told-whole lawful-seal s) (told-whole lawful-receive s) in
    let all = either (either d g) (either m r) in
    let told : Told Forms s all = told-either Words Strings s (either d g) (either m r) words strings in
    read Asks s (asks-once s) all a (told-iff s all to-asks from-asks told) e
