-- What is kept of a receiver over a run.
use Rattle.std.proofs.Common.{◌≡◌, ℕ, ◌+◌, ◌-◌, ◌/◌, ◌^◌, ◌<◌, ◌≤◌, true, false, eqb, ltb, leb, ◌⊎◌, List, [], ◌∷◌, length, take, Some, None, Ok, Err, Option, Result, sym, refl, ap, ◌∙◌, subst, ap₂, inl, inr, ⊎_elim, arith}
use native.Mathlib.Nat.{zero-div}
use Rattle.octets.specs.Strings.{Bytes, same}
use Rattle.std.proofs.lemmas.Bool.{both_ways, cases_Bool, cases_lt, eq-eqb, eqb-true, leb-false, le-ltb, lt-leb, or_cases, or_left, or_right}
use Rattle.sealing.proofs.Examined.{unless-ok}
use Rattle.sealing.proofs.Sealings.{exactly, only, opened-number, tagged-by}
use Rattle.sealing.specs.Calls.{examining, opening, placed, plain, text_of}
use Rattle.sealing.specs.Exactly.{LawfulSizes}
use Rattle.sealing.specs.Meaning.{Meaning, Lawful}
use Rattle.sealing.specs.Sealing.{IsSealing, tag}
use Rattle.sealing.specs.declared.fault.SealingFault.{SealingFault}
use Rattle.sealing.specs.declared.plain_open.Opened.{Opened}
use Rattle.ends.proofs.Marking.{accepted-marked}
use Rattle.ends.proofs.Sameness.{to_same, from-same}
use Rattle.ends.specs.Promise.{Same, joined, handed_by, numbers, In, Due, Accepting, Alike, none, both, left, right}
use Rattle.ends.specs.Receiving.{opened, windowed, examined_by, receiving}
use Rattle.ends.specs.Runs.{Receipt, handed_out, Receives}
use Rattle.ends.specs.Window.{fresh, accepted, judging, Accepts}
use Rattle.ends.specs.declared.fault.ReceiverFault.{ReceiverFault}
use Rattle.ends.specs.declared.fault.WindowFault.{WindowFault}
use Rattle.ends.specs.declared.fault.WindowFault.TheVariants.{TooOld, AcceptedEarlier}
use Rattle.ends.specs.declared.window.Marks.{Marks}

-- a number that the window takes
abbrev pub Fresh : Marks → ℕ → Type 0
Fresh w n = (w.highest < n + 64) × (accepted w n ≡ true → ⊥)

judged-fresh : (w : Marks) (n : ℕ) (x : Unit {0}) → Ok x ≡ judging w n → Fresh w n
judged-fresh w n x e =
    let a = unless-ok (ltb n 1) (AcceptedEarlier n) _ x e in
    let b = unless-ok (leb (n + 64) w.highest) (TooOld w.highest) _ x a.1 in
    let c = unless-ok (accepted w n) (AcceptedEarlier n) _ x b.1 in
    (leb-false (n + 64) w.highest b.0, both_ways (accepted w n) c.0)

fresh-judged : (w : Marks) (n : ℕ) → 1 ≤ n → Fresh w n → judging w n ≡ Ok tt
fresh-judged w n one (near, new) =
    let c : accepted w n ≡ false = ⊎_elim (λ t. absurd (new t)) (λ f. f) (cases_Bool (accepted w n)) in
    rw (c, le-ltb n 1 one, lt-leb (n + 64) w.highest near) refl

-- what a receipt that was not refused passed
passed : (w : Marks) (v : Result ℕ SealingFault) (next : Result Opened SealingFault) (o : Opened) → Ok o ≡ examined_by w v next → (n : ℕ) × (Ok n ≡ v) × (Ok tt ≡ judging w n) × (Ok o ≡ next)
passed w (Err f) next o e = absurd cc
passed w (Ok n) next o e = by (judging w n) refl e
  where
    by : (j : Result (Unit {0}) WindowFault) → judging w n ≡ j → ◌≡◌ {A = Result Opened ReceiverFault} (Ok o) (windowed j next) → (k : ℕ) × (◌≡◌ {A = Result ℕ SealingFault} (Ok k) (Ok n)) × (◌≡◌ {A = Result (Unit {0}) WindowFault} (Ok tt) (judging w k)) × (◌≡◌ {A = Result Opened SealingFault} (Ok o) next)
    by (Err f) p q = absurd cc
    by (Ok u) p q = (n, refl, sym p, open_next next q)
      where
        open_next : (s : Result Opened SealingFault) → ◌≡◌ {A = Result Opened ReceiverFault} (Ok o) (opened s) → ◌≡◌ {A = Result Opened SealingFault} (Ok o) s
        open_next (Ok o') t = let z : o ≡ o' = cc in ap (λ (y : Opened). Ok y) z
        open_next (Err f) t = absurd cc

passes : (w : Marks) (v : Result ℕ SealingFault) (next : Result Opened SealingFault) (n : ℕ) (o : Opened) → v ≡ Ok n → judging w n ≡ Ok tt → next ≡ Ok o → examined_by w v next ≡ Ok o
passes w v next n o a b c = rw (a, b, c) refl

-- what a call at a receiver did, by what was handed out
abbrev pub Outcome : Meaning → Marks → Receipt → Marks → Option (ℕ × List ℕ) → Type 0
Outcome m w e w' (Some p) = LawfulSizes e.header e.sealing e.work e.room × IsSealing m e.header e.sealing p.0 p.1 × Fresh w p.0 × Accepts w p.0 w'
Outcome m w e w' None = (w' ≡ w) × (LawfulSizes e.header e.sealing e.work e.room → (n : ℕ) (x : List ℕ) → IsSealing m e.header e.sealing n x → Fresh w n → ⊥)

abbrev pub receipt : List ℕ → List ℕ → ℕ → List ℕ → List ℕ → Result Opened ReceiverFault → Receipt
receipt h r k x x' a = record { header = h; sealing = r; work = k; room = length x; handed = handed_out a x' }

module _ (m m₁ : Meaning) (law : Lawful m) (law₁ : Lawful m₁) (mean : Same m m₁) where
  pub outcome : (w w' : Marks) (h r : List ℕ) (k : ℕ) (x x' : List ℕ) (a : Result Opened ReceiverFault) → Receives m₁ w h r k x x' a w' → Outcome m w (receipt h r k x x' a) w' (handed_out a x')
  outcome w w' h r k x x' (Ok o) s =
      let p = passed w (examining m₁.lowest m₁.highest m₁.carried (length h) r k (length x)) (opening m₁ h r k (length x)) o s.answer in
      let ok = p.3 in
      let ex = exactly m₁ law₁ h r s.header_bytes s.record_bytes k x x' (opening m₁ h r k (length x)) refl (s.written ∙ ap (λ (y : Result Opened SealingFault). placed y x (text_of m₁ r)) ok) in
      let acc = ex.accepted o (sym ok) in
      let same_number : o.number ≡ p.0 = opened-number m₁ h r k (length x) o p.0 ok p.1 in
      let fr = judged-fresh w p.0 tt p.2 in
      (acc.0, from-same m m₁ law mean h s.header_bytes r o.number (take o.length x') acc.1, subst (Fresh w) (sym same_number) fr, s.after)
  outcome w w' h r k x x' (Err f) s = (s.after, never)
    where
      never : LawfulSizes h r k (length x) → (n : ℕ) (y : List ℕ) → IsSealing m h r n y → Fresh w n → ⊥
      never sizes n y is fr =
          let is₁ = to_same m m₁ law mean h s.header_bytes r n y is in
          let ex = exactly m₁ law₁ h r s.header_bytes s.record_bytes k x (placed (opening m₁ h r k (length x)) x (text_of m₁ r)) (opening m₁ h r k (length x)) refl refl in
          let ok = ex.sealed sizes n y is₁ in
          let t = tagged-by r (same (take 16 (plain m₁ r)) (tag m₁ h)) (examining m₁.lowest m₁.highest m₁.carried (length h) r k (length x)) (record { number = n; length = length y }) ok in
          let j = fresh-judged w n is.first fr in
          let ans : receiving m₁ w h r k (length x) ≡ Ok (record { number = n; length = length y }) = passes w (examining m₁.lowest m₁.highest m₁.carried (length h) r k (length x)) (opening m₁ h r k (length x)) n _ (sym t.1) j ok in
          let c : ◌≡◌ {A = Result Opened ReceiverFault} (Err f) (Ok (record { number = n; length = length y })) = s.answer ∙ ans in
          cc

-- how a window stands to the numbers handed out
pub record Stands (w : Marks) (ns : List ℕ) : Type 0 where
  pub below : (k : ℕ) → In k ns → k ≤ w.highest
  pub top : (w.highest ≡ 0) ⊎ In w.highest ns
  pub marked : (k : ℕ) → accepted w k ≡ true → In k ns
  pub marks : (k : ℕ) → w.highest < k + 64 → In k ns → accepted w k ≡ true

-- a number that is accepted lies among the 64 that end at the highest
near : (w : Marks) (k : ℕ) → accepted w k ≡ true → w.highest < k + 64
near w k a = (accepted-marked w k a).1

pub stands-fresh : Stands fresh []
stands-fresh = record {
  below = λ k x. absurd x;
  top = inl refl;
  marked = λ k a. let q = accepted-marked fresh k a in let z : 0 / 2 ^ (0 - k) ≡ 0 = zero-div (2 ^ (0 - k)) in omega (arith, q.2);
  marks = λ k l x. absurd x;
}

module _ (m : Meaning) where
  pub stands-next : (w w' : Marks) (e : Receipt) (ps : List (ℕ × List ℕ)) (a : Option (ℕ × List ℕ)) → Stands w (numbers ps) → Outcome m w e w' a → Stands w' (numbers (joined a ps))
  stands-next w w' e ps None i (same, never) = subst (λ (x : Marks). Stands x (numbers ps)) (sym same) i
  stands-next w w' e ps (Some p) i (sizes, sealing, fr, acc) =
      let tops = acc.highest in
      record {
        below = λ k x. ⊎_elim (λ (q : k ≡ p.0). let o : k ≤ w'.highest = omega arith in o) (λ (q : In k (numbers ps)). let o : k ≤ w'.highest = omega (arith, i.below k q) in o) x;
        top = ⊎_elim (λ (q : w.highest < p.0). let o : w'.highest ≡ p.0 = omega arith in inr (inl o))
            (λ (q : p.0 ≤ w.highest). let o : w'.highest ≡ w.highest = omega arith in
            ⊎_elim (λ (z : w.highest ≡ 0). inl (o ∙ z)) (λ (z : In w.highest (numbers ps)). inr (inr (subst (λ (n : ℕ). In n (numbers ps)) (sym o) z))) i.top)
            (cases_lt w.highest p.0);
        marked = λ k a. let s = sym (acc.set k (near w' k a)) ∙ a in ⊎_elim (λ t. inl (eqb-true k p.0 t)) (λ t. inr (i.marked k t)) (or_cases (eqb k p.0) (accepted w k) s);
        marks = λ k l x. acc.set k l ∙ ⊎_elim (λ (q : k ≡ p.0). or_left (eqb k p.0) (accepted w k) (eq-eqb k p.0 q)) (λ (q : In k (numbers ps)). or_right (eqb k p.0) (accepted w k) (i.marks k (omega arith) q)) x;
      }

  module _ (law : Lawful m) where
    pub due : (w w' : Marks) (e : Receipt) (es : List Receipt) (a : Option (ℕ × List ℕ)) → Bytes e.header → Stands w (numbers (handed_by es)) → Outcome m w e w' a → (n : ℕ) (x : List ℕ) → (a ≡ Some (n, x) → Due m e es n x) × (Due m e es n x → a ≡ Some (n, x))
    due w w' e es None hb i (same, never) n x = (
      (λ q. absurd cc),
      (λ d. absurd (never d.sizes n x d.sealing (⊎_elim (λ (z : w.highest ≡ 0). let o : w.highest < n + 64 = omega arith in o) (λ (z : In w.highest (numbers (handed_by es))). d.recent w.highest z) i.top, λ a. d.new (i.marked n a)))),
    )
    due w w' e es (Some p) hb i (sizes, sealing, fr, acc) n x = (
      (λ q. let f : p ≡ (n, x) = cc in
          subst (λ (y : ℕ × List ℕ). Due m e es y.0 y.1) f
          (record { sizes = sizes; sealing = sealing; new = λ b. fr.1 (i.marks p.0 fr.0 b); recent = λ k b. let l = i.below k b in omega (arith, fr.0) })),
      (λ d. let u = only m law e.header e.sealing hb p.0 n p.1 x sealing d.sealing in ap₂ (λ (a : ℕ) (b : List ℕ). Some (a, b)) u.0 u.1),
    )

-- two answers that are the same wherever one of them is some
same-answers : (a b : Option (ℕ × List ℕ)) → ((n : ℕ) (x : List ℕ) → a ≡ Some (n, x) → b ≡ Some (n, x)) → ((n : ℕ) (x : List ℕ) → b ≡ Some (n, x) → a ≡ Some (n, x)) → a ≡ b
same-answers (Some p) b f g = sym (f p.0 p.1 refl)
same-answers None (Some q) f g = g q.0 q.1 refl
same-answers None None f g = refl

no_answer : (a : Option (ℕ × List ℕ)) → ((n : ℕ) (x : List ℕ) → a ≡ Some (n, x) → ⊥) → a ≡ None
no_answer (Some p) f = absurd (f p.0 p.1 refl)
no_answer None f = refl

module _ (m : Meaning) where
  carried : (d e : Receipt) (ds es : List Receipt) → d.header ≡ e.header → d.sealing ≡ e.sealing → (LawfulSizes d.header d.sealing d.work d.room → LawfulSizes e.header e.sealing e.work e.room) → handed_by ds ≡ handed_by es → (n : ℕ) (x : List ℕ) → Due m d ds n x → Due m e es n x
  carried d e ds es hh rr to i n x due = record {
    sizes = to due.sizes;
    sealing = subst (λ (y : List ℕ). IsSealing m y e.sealing n x) hh (subst (λ (y : List ℕ). IsSealing m d.header y n x) rr due.sealing);
    new = λ b. due.new (subst (λ (y : List (ℕ × List ℕ)). In n (numbers y)) (sym i) b);
    recent = λ k b. due.recent k (subst (λ (y : List (ℕ × List ℕ)). In k (numbers y)) (sym i) b);
  }

  -- receivers that accepted what was due, and to which alike records came, handed out the same
  pub alike : (ds es : List Receipt) → Accepting m ds → Accepting m es → Alike m ds es → handed_by ds ≡ handed_by es
  alike [] [] u v none = refl
  alike (d ∷ ds) (e ∷ es) u v (both hh rr to fro a) =
      let i = alike ds es u.1 v.1 a in
      let q : d.handed ≡ e.handed = same-answers d.handed e.handed
      (λ n x w. (v.0 n x).1 (carried d e ds es hh rr to i n x ((u.0 n x).0 w)))
      (λ n x w. (u.0 n x).1 (carried e d es ds (sym hh) (sym rr) fro (sym i) n x ((v.0 n x).0 w))) in
      cc
  alike (d ∷ ds) es u v (left no-sealing a) =
      let i = alike ds es u.1 v a in
      let q : d.handed ≡ None = no_answer d.handed (λ n x w. no-sealing n x ((u.0 n x).0 w).sealing) in
      rw q i
  alike ds (e ∷ es) u v (right no-sealing a) =
      let i = alike ds es u v.1 a in
      let q : e.handed ≡ None = no_answer e.handed (λ n x w. no-sealing n x ((v.0 n x).0 w).sealing) in
      rw q i
