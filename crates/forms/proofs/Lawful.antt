-- What a scan has to do with the words that it takes, and that parts in sequence keep it.
use Rattle.std.proofs.Common.{◌≡◌, ℕ, List, [], ◌∷◌, ◌++◌, length, Some, None, Ok, Err, Option, sym, refl, ap, ◌∙◌, append_assoc, arith, length-append}
use Rattle.std.proofs.lemmas.List.{append_cancel_right}
use Rattle.forms.specs.Scans.{Got, Scan, pure, onward, bind, Move, go, done, stuck, follow, run, takes}

-- V x w says that the word w spells x
pub record Lawful {X : Type 0} (V : X → List ℕ → Type 0) (scan : Scan X) : Type 0 where
  -- some word spells something
  pub live : (x : X) × (w : List ℕ) × V x w
  -- a word is taken whatever follows
  pub complete : (x : X) (w t : List ℕ) → V x w → scan (w ++ t) ≡ Ok (x, t)
  -- what is taken is a word
  pub right : (x : X) (s t : List ℕ) → scan s ≡ Ok (x, t) → (w : List ℕ) × V x w × (s ≡ w ++ t)
  -- what is passed before the scan is stuck begins a word
  pub begins : (s t : List ℕ) → scan s ≡ Err t → (p y : List ℕ) × (x : X) × V x (p ++ y) × (s ≡ p ++ t)
  -- the byte at which the scan is stuck decides that
  pub local : (p t z : List ℕ) (b : ℕ) → scan (p ++ b ∷ t) ≡ Err (b ∷ t) → scan (p ++ b ∷ z) ≡ Err (b ∷ z)

-- a scan that takes something is not stuck
pub clash : {X : Type 0} {C : Type 0} {g : X × List ℕ} {t : List ℕ} → ◌≡◌ {A = Got X} (Ok g) (Err t) → C
clash e = absurd (let z : ◌≡◌ {A = ℕ} 0 1 = cc in omega arith)

pub ok-parts : {X : Type 0} {x y : X} {s t : List ℕ} → ◌≡◌ {A = Got X} (Ok (x, s)) (Ok (y, t)) → (x ≡ y) × (s ≡ t)
ok-parts {X} {x} {y} {s} {t} e = let q : ◌≡◌ {A = X × List ℕ} (x, s) (y, t) = cc in (ap (λ (g : X × List ℕ). g.0) q, ap (λ (g : X × List ℕ). g.1) q)

module _ {X : Type 0} (x : X) where
  -- the empty word, and no other
  abbrev pub Nothing : X → List ℕ → Type 0
  Nothing y w = (y ≡ x) × (w ≡ [])

  pub lawful-pure : Lawful Nothing (pure x)
  lawful-pure = record {
    live = (x, [], (refl, refl));
    complete = λ y w t v. let e = v.0 in let f = v.1 in cc;
    right = λ y s t e. let q = ok-parts e in ([], (sym q.0, refl), q.1);
    begins = λ s t e. clash e;
    local = λ p t z b e. clash e;
  }

-- the same words, otherwise said
pub lawful-iff : {X : Type 0} {V W : X → List ℕ → Type 0} {scan : Scan X} → ((x : X) (w : List ℕ) → V x w → W x w) → ((x : X) (w : List ℕ) → W x w → V x w) → Lawful V scan → Lawful W scan
lawful-iff to from l = record {
  live = (l.live.0, l.live.1, to _ _ l.live.2);
  complete = λ x w t v. l.complete x w t (from x w v);
  right = λ x s t e. let r = l.right x s t e in (r.0, to _ _ r.1, r.2);
  begins = λ s t e. let r = l.begins s t e in (r.0, r.1, r.2, to _ _ r.3, r.4);
  local = l.local;
}

-- a word of V, and then a word of what W allows after it
abbrev pub Then : {X Y : Type 0} → (X → List ℕ → Type 0) → (X → Y → List ℕ → Type 0) → Y → List ℕ → Type 0
Then {X} V W y w = (x : X) × (u v : List ℕ) × V x u × W x y v × (w ≡ u ++ v)

module _ {X Y : Type 0} {V : X → List ℕ → Type 0} {W : X → Y → List ℕ → Type 0} {m : Scan X} {k : X → Scan Y} (l : Lawful V m) (ls : (x : X) → Lawful (W x) (k x)) where
  bind-complete : (y : Y) (w t : List ℕ) → Then V W y w → bind m k (w ++ t) ≡ Ok (y, t)
  unfolding bind
  bind-complete y w t (x, u, v, a, b, e) =
      let f : m (w ++ t) ≡ Ok (x, v ++ t) = ap (λ (n : List ℕ). m (n ++ t)) e ∙ ap m (append_assoc u v t) ∙ l.complete x u (v ++ t) a in
      ap (onward k) f ∙ (ls x).complete y v t b

  bind-right : (y : Y) (s t : List ℕ) → bind m k s ≡ Ok (y, t) → (w : List ℕ) × Then V W y w × (s ≡ w ++ t)
  unfolding bind
  bind-right y s t e = at (m s) refl e
    where
      at : (g : Got X) → m s ≡ g → onward k g ≡ Ok (y, t) → (w : List ℕ) × Then V W y w × (s ≡ w ++ t)
      at (Ok (x, r)) f e =
          let a = l.right x s r f in
          let b = (ls x).right y r t e in
          (a.0 ++ b.0, (x, a.0, b.0, a.1, b.1, refl), a.2 ∙ ap (λ (n : List ℕ). a.0 ++ n) b.2 ∙ sym (append_assoc a.0 b.0 t))
      at (Err r) f e = clash (sym e)

  bind-begins : (s t : List ℕ) → bind m k s ≡ Err t → (p q : List ℕ) × (y : Y) × Then V W y (p ++ q) × (s ≡ p ++ t)
  unfolding bind
  bind-begins s t e = at (m s) refl e
    where
      at : (g : Got X) → m s ≡ g → onward k g ≡ Err t → (p q : List ℕ) × (y : Y) × Then V W y (p ++ q) × (s ≡ p ++ t)
      at (Ok (x, r)) f e =
          let a = l.right x s r f in
          let b = (ls x).begins r t e in
          (a.0 ++ b.0, b.1, b.2, (x, a.0, b.0 ++ b.1, a.1, b.3, append_assoc a.0 b.0 b.1), a.2 ∙ ap (λ (n : List ℕ). a.0 ++ n) b.4 ∙ sym (append_assoc a.0 b.0 t))
      at (Err r) f e =
          let a = l.begins s t (f ∙ cc) in
          let b = (ls a.2).live in
          (a.0, a.1 ++ b.1, b.0, (a.2, a.0 ++ a.1, b.1, a.3, b.2, sym (append_assoc a.0 a.1 b.1)), a.4)

  bind-local : (p t z : List ℕ) (b : ℕ) → bind m k (p ++ b ∷ t) ≡ Err (b ∷ t) → bind m k (p ++ b ∷ z) ≡ Err (b ∷ z)
  unfolding bind
  bind-local p t z b e = at (m (p ++ b ∷ t)) refl e
    where
      at : (g : Got X) → m (p ++ b ∷ t) ≡ g → onward k g ≡ Err (b ∷ t) → onward k (m (p ++ b ∷ z)) ≡ Err (b ∷ z)
      at (Ok (x, r)) f e =
          let a = l.right x (p ++ b ∷ t) r f in
          let c = (ls x).begins r (b ∷ t) e in
          let same : p ≡ a.0 ++ c.0 = append_cancel_right p (a.0 ++ c.0) (b ∷ t) (a.2 ∙ ap (λ (n : List ℕ). a.0 ++ n) c.4 ∙ sym (append_assoc a.0 c.0 (b ∷ t))) in
          let f' : m (p ++ b ∷ z) ≡ Ok (x, c.0 ++ b ∷ z) = ap (λ (n : List ℕ). m (n ++ b ∷ z)) same ∙ ap m (append_assoc a.0 c.0 (b ∷ z)) ∙ l.complete x a.0 (c.0 ++ b ∷ z) a.1 in
          ap (onward k) f' ∙ (ls x).local c.0 t z b (ap (k x) (sym c.4) ∙ e)
      at (Err r) f e = ap (onward k) (l.local p t z b (f ∙ cc))

  pub lawful-bind : Lawful (Then V W) (bind m k)
  lawful-bind = record {
    live = let a = l.live in let b = (ls a.0).live in (b.0, a.1 ++ b.1, (a.0, a.1, b.1, a.2, b.2, refl));
    complete = bind-complete;
    right = bind-right;
    begins = bind-begins;
    local = bind-local;
  }

-- what is left of a word after a byte that does what is said
abbrev pub After : {Q X : Type 0} → (Q → X → List ℕ → Type 0) → Move Q X → X → List ℕ → Type 0
After V (go q) x w = V q x w
After V (done y) x w = (x ≡ y) × (w ≡ [])
After V stuck x w = ⊥

-- V q is what is taken from the state q: byte by byte
pub record Machine {Q X : Type 0} (step : Q → ℕ → Move Q X) (V : Q → X → List ℕ → Type 0) : Type 0 where
  pub live : (q : Q) → (x : X) × (w : List ℕ) × V q x w
  pub full : (q : Q) (x : X) → V q x [] → ⊥
  pub first : (q : Q) (b : ℕ) (x : X) (w : List ℕ) → V q x (b ∷ w) → After V (step q b) x w
  pub back : (q : Q) (b : ℕ) (x : X) (w : List ℕ) → After V (step q b) x w → V q x (b ∷ w)

-- where a byte is looked up
pub takes-both : {Q X Y : Type 0} (f : Y → Move Q X) (o : Option Y) (P : Move Q X → Type 0) → (o ≡ None → P stuck) → ((y : Y) → o ≡ Some y → P (f y)) → P (takes f o)
takes-both f None P none some = none refl
takes-both f (Some y) P none some = some y refl

longer : (p t : List ℕ) (b : ℕ) → t ≡ p ++ b ∷ t → ⊥
longer p t b e = let f = ap length e in let g = length-append p (b ∷ t) in omega arith

module _ {Q X : Type 0} {step : Q → ℕ → Move Q X} {V : Q → X → List ℕ → Type 0} (a : Machine step V) where
  run-complete : (w : List ℕ) (q : Q) (x : X) (t : List ℕ) → V q x w → run step q (w ++ t) ≡ Ok (x, t)
  unfolding run
  run-complete [] q x t v = absurd (a.full q x v)
  run-complete (b ∷ w) q x t v = at (λ r v. run-complete w r x t v) (step q b) (a.first q b x w v)
    where
      at : ((r : Q) → V r x w → run step r (w ++ t) ≡ Ok (x, t)) → (n : Move Q X) → After V n x w → follow (λ r. run step r (w ++ t)) (λ y. Ok (y, w ++ t)) (Err (b ∷ w ++ t)) n ≡ Ok (x, t)
      at again (go r) v = again r v
      at again (done y) v = let e = v.0 in let f = v.1 in cc
      at again stuck v = absurd v

  run-right : (s : List ℕ) (q : Q) (x : X) (t : List ℕ) → run step q s ≡ Ok (x, t) → (w : List ℕ) × V q x w × (s ≡ w ++ t)
  unfolding run
  run-right [] q x t e = clash (sym e)
  run-right (b ∷ s) q x t e = at (λ r e. run-right s r x t e) (step q b) (a.back q b x) e
    where
      at : ((r : Q) → run step r s ≡ Ok (x, t) → (w : List ℕ) × V r x w × (s ≡ w ++ t)) → (n : Move Q X) → ((w : List ℕ) → After V n x w → V q x (b ∷ w)) → follow (λ r. run step r s) (λ y. Ok (y, s)) (Err (b ∷ s)) n ≡ Ok (x, t) → (w : List ℕ) × V q x w × (b ∷ s ≡ w ++ t)
      at again (go r) onto e = let c = again r e in (b ∷ c.0, onto c.0 c.1, ap (λ (l : List ℕ). b ∷ l) c.2)
      at again (done y) onto e = let c = ok-parts e in (b ∷ [], onto [] (sym c.0, refl), ap (λ (l : List ℕ). b ∷ l) c.1)
      at again stuck onto e = clash (sym e)

  here : (q : Q) (s t : List ℕ) → s ≡ t → (p y : List ℕ) × (x : X) × V q x (p ++ y) × (s ≡ p ++ t)
  here q s t e = let c = a.live q in ([], c.1, c.0, c.2, e)

  run-begins : (s : List ℕ) (q : Q) (t : List ℕ) → run step q s ≡ Err t → (p y : List ℕ) × (x : X) × V q x (p ++ y) × (s ≡ p ++ t)
  unfolding run
  run-begins [] q t e = here q [] t (cc)
  run-begins (b ∷ s) q t e = at (λ r e. run-begins s r t e) (step q b) (a.back q b) e
    where
      at : ((r : Q) → run step r s ≡ Err t → (p y : List ℕ) × (x : X) × V r x (p ++ y) × (s ≡ p ++ t)) → (n : Move Q X) → ((x : X) (w : List ℕ) → After V n x w → V q x (b ∷ w)) → follow (λ r. run step r s) (λ y. Ok (y, s)) (Err (b ∷ s)) n ≡ Err t → (p y : List ℕ) × (x : X) × V q x (p ++ y) × (b ∷ s ≡ p ++ t)
      at again (go r) onto e = let c = again r e in (b ∷ c.0, c.1, c.2, onto c.2 (c.0 ++ c.1) c.3, ap (λ (l : List ℕ). b ∷ l) c.4)
      at again (done y) onto e = clash e
      at again stuck onto e = here q (b ∷ s) t (cc)

  run-local : (p : List ℕ) (q : Q) (t z : List ℕ) (b : ℕ) → run step q (p ++ b ∷ t) ≡ Err (b ∷ t) → run step q (p ++ b ∷ z) ≡ Err (b ∷ z)
  unfolding run
  run-local [] q t z b e = at (step q b) e
    where
      at : (n : Move Q X) → follow (λ r. run step r t) (λ y. Ok (y, t)) (Err (b ∷ t)) n ≡ Err (b ∷ t) → follow (λ r. run step r z) (λ y. Ok (y, z)) (Err (b ∷ z)) n ≡ Err (b ∷ z)
      at (go r) e = let c = run-begins t r (b ∷ t) e in absurd (longer c.0 t b c.4)
      at (done y) e = clash e
      at stuck e = refl
  run-local (c ∷ p) q t z b e = at (λ r e. run-local p r t z b e) (step q c) e
    where
      at : ((r : Q) → run step r (p ++ b ∷ t) ≡ Err (b ∷ t) → run step r (p ++ b ∷ z) ≡ Err (b ∷ z)) → (n : Move Q X) → follow (λ r. run step r (p ++ b ∷ t)) (λ y. Ok (y, p ++ b ∷ t)) (Err (c ∷ p ++ b ∷ t)) n ≡ Err (b ∷ t) → follow (λ r. run step r (p ++ b ∷ z)) (λ y. Ok (y, p ++ b ∷ z)) (Err (c ∷ p ++ b ∷ z)) n ≡ Err (b ∷ z)
      at again (go r) e = again r e
      at again (done y) e = clash e
      at again stuck e = let f : b ∷ t ≡ (c ∷ p) ++ b ∷ t = cc in absurd (let g = ap length f in let h = length-append (c ∷ p) (b ∷ t) in omega arith)

  pub lawful-run : (q : Q) → Lawful (V q) (run step q)
  lawful-run q = record {
    live = a.live q;
    complete = λ x w t v. run-complete w q x t v;
    right = λ x s t e. run-right s q x t e;
    begins = λ s t e. run-begins s q t e;
    local = λ p t z b e. run-local p q t z b e;
  }
