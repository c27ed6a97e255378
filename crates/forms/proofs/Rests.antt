-- Scans of what is left of a line, as the reader's slices have it.
use Rattle.std.proofs.Common.{◌≡◌, ℕ, ◌+◌, ◌<◌, true, false, List, [], ◌∷◌, length, is_ok, IsErrAnd, Some, None, Ok, Err, Option, Result, sym, refl, ap, ◌∙◌, arith}
use Rattle.std.specs.List.{IsFirstAndRest}
use Rattle.forms.specs.declared.reader.Stuck.{Stuck}
use Rattle.forms.specs.Hex.{nibbled}
use Rattle.forms.specs.Scans.{Got, Scan, onward, bind, run, follow, done, takes, one, tenth}
use Rattle.forms.specs.Taking.{taken}
use Rattle.forms.proofs.Digits.{nibbled-some, tenth-some}
use Rattle.forms.proofs.Lawful.{clash, ok-parts}

module _ {X : Type 0} (f : ℕ → Option X) where
  pub one-empty : (s : List ℕ) → length s ≡ 0 → ◌≡◌ {A = Got X} (Err s) (one f s)
  unfolding one run
  one-empty [] h = refl
  one-empty (b ∷ s) h = absurd (omega arith)

  module _ (s t : List ℕ) (b : ℕ) (parts : IsFirstAndRest s b t) where
    pub one_none : None ≡ f b → ◌≡◌ {A = Got X} (Err s) (one f s)
    unfolding one run
    one_none e = rw parts.0 (rw (sym e) refl)

    pub one-some : (x : X) → Some x ≡ f b → ◌≡◌ {A = Got X} (Ok (x, t)) (one f s)
    unfolding one run
    one-some x e = rw parts.0 (rw (sym e) refl)

  -- the byte that was taken
  pub one-taken : (s t : List ℕ) (x : X) → ◌≡◌ {A = Got X} (Ok (x, t)) (one f s) → (b : ℕ) × (s ≡ b ∷ t) × (f b ≡ Some x)
  unfolding one run
  one-taken [] t x e = clash e
  one-taken (b ∷ s) t x e = at _ (f b) refl e
    where
      at : (k : Unit {0} → Got X) (o : Option X) → f b ≡ o → ◌≡◌ {A = Got X} (Ok (x, t)) (follow k (λ y. Ok (y, s)) (Err (b ∷ s)) (takes done o)) → (c : ℕ) × (b ∷ s ≡ c ∷ t) × (f c ≡ Some x)
      at k None i e = clash e
      at k (Some y) i e = let q = ok-parts e in (b, ap (λ (l : List ℕ). b ∷ l) (sym q.1), i ∙ ap Some (sym q.0))

  pub one-shorter : (s t : List ℕ) (x : X) → ◌≡◌ {A = Got X} (Ok (x, t)) (one f s) → length s ≡ length t + 1
  one-shorter s t x e = ap length (one-taken s t x e).1 ∙ omega arith

  -- the line is left as it was, and its next byte has no value
  pub one_left : (s t : List ℕ) → ◌≡◌ {A = Got X} (Err t) (one f s) → (t ≡ s) × ((b : ℕ) (r : List ℕ) → s ≡ b ∷ r → f b ≡ None)
  unfolding one run
  one_left [] t e = (cc, λ b r i. absurd (let z : ◌≡◌ {A = ℕ} 0 1 = cc in omega arith))
  one_left (b ∷ s) t e = at _ (f b) refl e
    where
      at : (k : Unit {0} → Got X) (o : Option X) → f b ≡ o → ◌≡◌ {A = Got X} (Err t) (follow k (λ y. Ok (y, s)) (Err (b ∷ s)) (takes done o)) → (t ≡ b ∷ s) × ((c : ℕ) (r : List ℕ) → b ∷ s ≡ c ∷ r → f c ≡ None)
      at k None i e = (cc, λ c r k. (let same : c ≡ b = cc in ap f same) ∙ i)
      at k (Some y) i e = clash (sym e)

-- one part after another
module _ {X Y : Type 0} (m : Scan X) (k : X → Scan Y) where
  pub bind_ok : (s t : List ℕ) (x : X) → Ok (x, t) ≡ m s → bind m k s ≡ k x t
  unfolding bind
  bind_ok s t x e = ap (onward k) (sym e)

  pub bind-err : (s t : List ℕ) → Err t ≡ m s → Err t ≡ bind m k s
  unfolding bind
  bind-err s t e = ap (onward k) e

-- whether a byte was taken
pub went : (r : Result (Unit {0}) Stuck) (t : List ℕ) (g : Got (Unit {0})) → is_ok r ≡ true → taken (λ x. x) r t ≡ g → Ok (tt, t) ≡ g
went (Ok x) t g e h = h
went (Err x) t g e h = cc

pub kept : (r : Result (Unit {0}) Stuck) (t : List ℕ) (g : Got (Unit {0})) → is_ok r ≡ false → taken (λ x. x) r t ≡ g → Err t ≡ g
kept (Ok x) t g e h = cc
kept (Err x) t g e h = h

-- what the exit of a `?` hands on
pub handed : {X Y : Type 0} (f : X → Y) (g : Got Y) (r : Result X Stuck) (Q : Stuck → Type 0) (t : List ℕ) → IsErrAnd r Q → Err t ≡ g → taken f r t ≡ g
handed f g (Ok x) Q t b h = absurd b
handed f g (Err y) Q t b h = h

pub digit-small : (s t : List ℕ) (d : ℕ) → Ok (d, t) ≡ one nibbled s → d < 16
digit-small s t d e = let a = one-taken nibbled s t d e in (nibbled-some a.0 d a.2).0

pub decimal-small : (s t : List ℕ) (d : ℕ) → Ok (d, t) ≡ one tenth s → d < 10
decimal-small s t d e = let a = one-taken tenth s t d e in let b = tenth-some a.0 d a.2 in omega arith
