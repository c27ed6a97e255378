-- From what a scan answers to the column where a line cannot go on.
use Rattle.std.proofs.Common.{◌≡◌, ℕ, ◌+◌, ◌-◌, ◌<◌, ◌≤◌, min, max, leb, ◌⊎◌, List, [], ◌∷◌, ◌++◌, length, take, drop, Ok, Err, Result, sym, refl, ap, ◌∙◌, subst, inl, inr, ⊎_elim, append_assoc, append-nil, arith, length-append, take-append-drop}
use Rattle.std.proofs.lemmas.List.{take_at, take_all, take-take}
use Rattle.std.proofs.lemmas.Bool.{cases_lt, cases_order, cond_both, leb-true, leb-false}
use Rattle.forms.specs.Columns.{Begins, Stops, Lines, Reads}
use Rattle.forms.specs.Scans.{Got, Scan, whole, either, limited}
use Rattle.forms.proofs.Lawful.{Lawful, clash, ok-parts}

-- where the line s cannot go on, whatever its length
pub record Halts (L : List ℕ → Type 0) (s : List ℕ) (c : ℕ) : Type 0 where
  pub from : 1 ≤ c
  pub within : c ≤ length s + 1
  pub before : Begins L (take (c - 1) s)
  pub never : c ≤ length s → Begins L (take c s) → ⊥
  pub ends : L s → ⊥

-- the same as Reads, whatever the length
abbrev pub Told : {F : Type 0} → (F → List ℕ → Type 0) → List ℕ → Result F ℕ → Type 0
Told V s (Ok f) = V f s
Told V s (Err c) = Halts (Lines V) s c

-- the column of the first byte of what is left
column : (s p t : List ℕ) → s ≡ p ++ t → length s - length t + 1 ≡ length p + 1
column s p t e = let f = ap length e ∙ length-append p t in omega arith

module _ (L : List ℕ → Type 0) where
  halts_at : (s p t : List ℕ) (b c : ℕ) → c ≡ length p + 1 → s ≡ p ++ b ∷ t → Begins L p → ((rest : List ℕ) → L (p ++ b ∷ rest) → ⊥) → Halts L s c
  halts_at s p t b c is e begun bars =
      let long : length s ≡ length p + length (b ∷ t) = ap length e ∙ length-append p (b ∷ t) in
      let front : take (c - 1) s ≡ p = ap (take (c - 1)) e ∙ take_at p (b ∷ t) (c - 1) (omega arith) in
      let next : take c s ≡ p ++ b ∷ [] = ap (take c) (e ∙ sym (append_assoc p (b ∷ []) t)) ∙ take_at (p ++ b ∷ []) t c (length-append p (b ∷ []) ∙ sym is) in
      record {
        from = omega arith;
        within = omega arith;
        before = subst (Begins L) (sym front) begun;
        never = λ _ k. let m = subst (Begins L) next k in bars m.0 (subst L (append_assoc p (b ∷ []) m.0) m.1);
        ends = λ k. bars t (subst L e k);
      }

  halts_end : (s : List ℕ) → Begins L s → (L s → ⊥) → Halts L s (length s - 0 + 1)
  halts_end s begun bars = record {
    from = omega arith;
    within = omega arith;
    before = subst (Begins L) (sym (take_all (length s - 0 + 1 - 1) s (omega arith))) begun;
    never = λ h _. absurd (omega arith);
    ends = bars;
  }

module _ {F : Type 0} {V : F → List ℕ → Type 0} {scan : Scan F} (l : Lawful V scan) where
  pub spelt-whole : (x : F) (s : List ℕ) → V x s → scan s ≡ Ok (x, [])
  spelt-whole x s v = ap scan (sym (append-nil s)) ∙ l.complete x s [] v

  pub once : (x y : F) (s : List ℕ) → V x s → V y s → x ≡ y
  once x y s v w = (ok-parts (sym (spelt-whole x s v) ∙ spelt-whole y s w)).0

  -- the scan of a form reads a line
  pub told-whole : (s : List ℕ) → Told V s (whole (length s) (scan s))
  told-whole s = at (scan s) refl
    where
      at : (g : Got F) → scan s ≡ g → Told V s (whole (length s) g)
      at (Ok (x, [])) e = let r = l.right x s [] e in subst (V x) (sym (r.2 ∙ append-nil r.0)) r.1
      at (Ok (x, b ∷ t)) e =
          let r = l.right x s (b ∷ t) e in
          halts_at (Lines V) s r.0 t b _ (column s r.0 (b ∷ t) r.2) r.2 ([], (x, subst (V x) (sym (append-nil r.0)) r.1))
          (λ rest k. let z : [] ≡ b ∷ rest = (ok-parts (sym (spelt-whole k.0 _ k.1) ∙ l.complete x r.0 (b ∷ rest) r.1)).1 in let y : ◌≡◌ {A = ℕ} 0 1 = cc in omega arith)
      at (Err []) e =
          let r = l.begins s [] e in
          let same : r.0 ≡ s = sym (r.4 ∙ append-nil r.0) in
          halts_end (Lines V) s (subst (Begins (Lines V)) same (r.1, (r.2, r.3))) (λ k. clash (sym (spelt-whole k.0 s k.1) ∙ e))
      at (Err (b ∷ t)) e =
          let r = l.begins s (b ∷ t) e in
          halts_at (Lines V) s r.0 t b _ (column s r.0 (b ∷ t) r.4) r.4 (r.1, (r.2, r.3))
          (λ rest k. clash (sym (spelt-whole k.0 _ k.1) ∙ l.local r.0 t rest b (ap scan (sym r.4) ∙ e)))

-- a longer front that begins a line has shorter ones that do
shorter : (L : List ℕ → Type 0) (s : List ℕ) (c d : ℕ) → c ≤ d → Begins L (take d s) → Begins L (take c s)
shorter L s c d less (rest, k) =
    let e : take d s ≡ take c s ++ drop c (take d s) = sym (take-append-drop c (take d s)) ∙ ap (λ (l : List ℕ). l ++ drop c (take d s)) (take-take c d s less) in
    (drop c (take d s) ++ rest, subst L (ap (λ (l : List ℕ). l ++ rest) e ∙ append_assoc (take c s) (drop c (take d s)) rest) k)

-- the front of a line begins it
front : (L : List ℕ → Type 0) (s : List ℕ) (c : ℕ) → L s → Begins L (take c s)
front L s c k = (drop c s, subst L (sym (take-append-drop c s)) k)

pub told-iff : {F : Type 0} {V W : F → List ℕ → Type 0} (s : List ℕ) (r : Result F ℕ) → ((f : F) (w : List ℕ) → V f w → W f w) → ((f : F) (w : List ℕ) → W f w → V f w) → Told V s r → Told W s r
told-iff s (Ok f) to from t = to f s t
told-iff s (Err c) to from h = record {
  from = h.from;
  within = h.within;
  before = (h.before.0, (h.before.1.0, to _ _ h.before.1.1));
  never = λ i k. h.never i (k.0, (k.1.0, from _ _ k.1.1));
  ends = λ k. h.ends (k.0, from _ _ k.1);
}

-- the column of two languages together is the greater one
pub told-either : {F : Type 0} (V W : F → List ℕ → Type 0) (s : List ℕ) (a b : Result F ℕ) → Told V s a → Told W s b → Told (λ f w. V f w ⊎ W f w) s (either a b)
told-either V W s (Ok f) b v w = inl v
told-either V W s (Err c) (Ok f) v w = inr w
told-either {F} V W s (Err c) (Err d) v w = record {
  from = omega (arith, v.from);
  within = omega (arith, v.within, w.within);
  before = ⊎_elim (λ h. at-d h) (λ h. at_c h) (cases_lt c d);
  never = λ i k. part i k.0 k.1.0 k.1.1;
  ends = λ k. ⊎_elim (λ x. v.ends (k.0, x)) (λ x. w.ends (k.0, x)) k.1;
}
  where
    L : List ℕ → Type 0
    L = Lines (λ (f : F) u. V f u ⊎ W f u)

    at-d : c < d → Begins L (take (max c d - 1) s)
    at-d h = let e : max c d - 1 ≡ d - 1 = omega arith in subst (λ n. Begins L (take n s)) (sym e) (w.before.0, (w.before.1.0, inr w.before.1.1))

    at_c : d ≤ c → Begins L (take (max c d - 1) s)
    at_c h = let e : max c d - 1 ≡ c - 1 = omega arith in subst (λ n. Begins L (take n s)) (sym e) (v.before.0, (v.before.1.0, inl v.before.1.1))

    part : max c d ≤ length s → (rest : List ℕ) (f : F) → V f (take (max c d) s ++ rest) ⊎ W f (take (max c d) s ++ rest) → ⊥
    part i rest f (inl x) = v.never (omega arith) (shorter (Lines V) s c (max c d) (omega arith) (rest, (f, x)))
    part i rest f (inr x) = w.never (omega arith) (shorter (Lines W) s d (max c d) (omega arith) (rest, (f, x)))

-- the limit
pub reads-limited : {F : Type 0} (V : F → List ℕ → Type 0) (s : List ℕ) (r : Result F ℕ) → Told V s r → Reads V s (limited (length s) r)
reads-limited V s (Ok f) v =
    cond_both (leb (length s) 16384) (Ok f) (Err 16385) (Reads V s) (λ e. (leb-true (length s) 16384 e, v)) (λ e. let long = leb-false (length s) 16384 e in record {
      from = omega arith;
      limited = omega arith;
      within = omega arith;
      before = front (Lines V) s 16384 (f, v);
      here = inr (inr (refl, long));
    })
reads-limited V s (Err c) h = record {
  from = omega (arith, h.from);
  limited = omega arith;
  within = omega (arith, h.within);
  before = shorter (Lines V) s (min c 16385 - 1) (c - 1) (omega arith) h.before;
  here = ⊎_elim (λ k. above k) (λ k. below k) (cases_lt 16385 c);
}
  where
    Here : ℕ → Type 0
    Here n = ((n ≤ length s) × (Begins (Lines V) (take n s) → ⊥)) ⊎ (((n ≡ length s + 1) × (Lines V s → ⊥)) ⊎ ((n ≡ 16385) × (16384 < length s)))

    above : 16385 < c → Here (min c 16385)
    above k = inr (inr (omega arith, omega (arith, h.within)))

    below : c ≤ 16385 → Here (min c 16385)
    below k = let e : min c 16385 ≡ c = omega arith in subst Here (sym e) (⊎_elim (λ i. inr (inl (omega (arith, h.within), h.ends))) (λ i. inl (i, h.never i)) (cases_lt (length s) c))

-- a line has one column
column-once : (L : List ℕ → Type 0) (s : List ℕ) (c d : ℕ) → Stops L s c → Stops L s d → c < d → ⊥
column-once L s c d h k less =
    ⊎_elim (λ x. x.1 (shorter L s c (d - 1) (omega arith) k.before)) (⊎_elim (λ x. omega (arith, x.0, k.within)) (λ x. omega (arith, x.0, k.limited))) h.here

-- and none if it is a form
form-stops : (L : List ℕ → Type 0) (s : List ℕ) (c : ℕ) → length s ≤ 16384 → L s → Stops L s c → ⊥
form-stops L s c short k h =
    ⊎_elim (λ x. x.1 (front L s c k)) (⊎_elim (λ x. x.1 k) (λ x. omega (arith, x.1))) h.here

pub reads-once : {F : Type 0} (V : F → List ℕ → Type 0) (s : List ℕ) → ((f g : F) → V f s → V g s → f ≡ g) → (q r : Result F ℕ) → Reads V s q → Reads V s r → q ≡ r
reads-once V s one (Ok f) (Ok g) v w = ap Ok (one f g v.1 w.1)
reads-once V s one (Ok f) (Err d) v w = absurd (form-stops (Lines V) s d v.0 (f, v.1) w)
reads-once V s one (Err c) (Ok g) v w = absurd (form-stops (Lines V) s c w.0 (g, w.1) v)
reads-once V s one (Err c) (Err d) v w =
    ⊎_elim (λ e. ap Err e) (⊎_elim (λ l. absurd (column-once (Lines V) s c d v w l)) (λ l. absurd (column-once (Lines V) s d c w v l))) (cases_order c d)
