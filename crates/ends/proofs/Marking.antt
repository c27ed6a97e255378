-- Marks as bits: shifting them, and marking a number.
use Rattle.std.proofs.Common.{◌≡◌, ℕ, ◌+◌, ◌-◌, ◌*◌, ◌/◌, ◌%◌, ◌^◌, ◌<◌, ◌≤◌, max, Bool, true, false, cond, ◌||◌, eqb, ltb, leb, ◌⊎◌, Ok, Err, sym, refl, ap, ◌∙◌, subst, inl, inr, ⊎_elim, arith}
use lib.Bits.{bit_or, or_step}
use Rattle.std.specs.Int.{bit_at}
use Rattle.std.proofs.lemmas.Nat.{pow_pos}
use Rattle.std.proofs.lemmas.Nat.Bits.{bit_at-zero, bit_at_or, bit_at-pow_same, bit_at-pow_other, bit_at_above, bit_at_cat_low, bit_at_cat_high}
use Rattle.std.proofs.lemmas.Bool.{both_ways, cases_Bool, cases_eq, cases_lt, cond-false, cond-true, eq-eqb, eqb-true, le-ltb, leb-false, lt-leb, ltb-false, or_cases, or_left, or_right}
use Rattle.ends.specs.declared.fault.WindowFault.TheVariants.{AcceptedEarlier}
use Rattle.ends.specs.Window.{accepted, judging, Accepts}
use Rattle.ends.specs.declared.window.Marks.{Marks}

-- what a shift to the left leaves, at each bit
pub bit-shl-low : (w d i : ℕ) → i < d → bit_at (w * 2 ^ d) i ≡ 0
bit-shl-low w d i h = ap (λ (x : ℕ). bit_at x i) (omega arith) ∙ bit_at_cat_low w d 0 i h ∙ bit_at-zero i

pub bit-shl-high : (w d i : ℕ) → d ≤ i → bit_at (w * 2 ^ d) i ≡ bit_at w (i - d)
bit-shl-high w d i h = ap (λ (x : ℕ). bit_at x i) (omega arith) ∙ bit_at_cat_high w d 0 i (pow_pos d) h

pub bit-mod : (n i : ℕ) → i < 64 → bit_at (n % 2 ^ 64) i ≡ bit_at n i
bit-mod n i h = sym (bit_at_cat_low (n / 2 ^ 64) 64 (n % 2 ^ 64) i h) ∙ ap (λ (x : ℕ). bit_at x i) (omega arith)

-- what the window is after a shift by d, of which more than all may fall out
pub record Shifted (w d z : ℕ) : Type 0 where
  pub fits : z < 2 ^ 64
  pub low : (i : ℕ) → i < d → bit_at z i ≡ 0
  pub high : (i : ℕ) → d ≤ i → i < 64 → bit_at z i ≡ bit_at w (i - d)

pub shifted : (w d : ℕ) → Shifted w d ((w * 2 ^ d) % 2 ^ 64)
shifted w d =
    record {
      fits = omega arith;
      low = λ i l. ⊎_elim (λ (h : i < 64). bit-mod (w * 2 ^ d) i h ∙ bit-shl-low w d i l)
          (λ (h : 64 ≤ i). bit_at_above ((w * 2 ^ d) % 2 ^ 64) 64 i (let o : (w * 2 ^ d) % 2 ^ 64 < 2 ^ 64 = omega arith in o) h) (cases_lt i 64);
      high = λ i l h. bit-mod (w * 2 ^ d) i h ∙ bit-shl-high w d i l;
    }

pub none_left : (w d : ℕ) → 64 ≤ d → Shifted w d 0
none_left w d l =
    record {
      fits = omega arith;
      low = λ i h. bit_at-zero i;
      high = λ i h k. absurd (omega arith);
    }

abbrev pub at : ℕ → ℕ → Marks
at top w = record { highest = top; marks = w }

-- a number that is marked, as a fact
abbrev pub Marked : Marks → ℕ → Type 0
Marked s n = (n ≤ s.highest) × (s.highest < n + 64) × (bit_at s.marks (s.highest - n) ≡ 1)

-- what marking does, as facts
abbrev pub Joins : Marks → ℕ → Marks → Type 0
Joins s n t = (t.highest ≡ max s.highest n) × ((k : ℕ) → t.highest < k + 64 → (Marked t k → (k ≡ n) ⊎ Marked s k) × ((k ≡ n) ⊎ Marked s k → Marked t k))

bit-one : (i : ℕ) → 1 ≤ i → bit_at 1 i ≡ 0
bit-one i h = bit_at_above 1 1 i (omega arith) h

-- a number above the highest
pub ahead : (top w n z : ℕ) → top < n → Shifted w (n - top) z → Joins (at top w) n (at n (bit_or z 1))
ahead top w n z l s = (
  omega arith,
  λ k near. (
    (λ m. ⊎_elim (λ (e : k ≡ n). inl e)
        (λ (ne : k ≡ n → ⊥).
        let le = m.0 in
        let b : bit_at z (n - k) ≡ 1 = omega (arith, m.2, bit_at_or z 1 (n - k), bit-one (n - k) (omega arith)) in
        ⊎_elim (λ (q : n - k < n - top). absurd (omega (arith, s.low (n - k) q)))
        (λ (q : n - top ≤ n - k). inr (let o1 : k ≤ top = omega arith in let o2 : top < k + 64 = omega arith in
        (o1, o2, subst (λ (x : ℕ). bit_at w x ≡ 1) (let o3 : n - k - (n - top) ≡ top - k = omega arith in o3) (sym (s.high (n - k) q (omega arith)) ∙ b))))
        (cases_lt (n - k) (n - top))) (cases_eq k n)),
    (λ m. ⊎_elim
        (λ (e : k ≡ n). let o1 : k ≤ n = omega arith in let z0 : n - k ≡ 0 = omega arith in
        (o1, near, subst (λ (x : ℕ). bit_at (bit_or z 1) x ≡ 1) (sym z0) (omega (arith, bit_at_or z 1 0, bit_at-pow_same 0))))
        (λ (q : Marked (at top w) k).
        let le = q.0 in
        let o1 : k ≤ n = omega arith in
        let o3 : n - k - (n - top) ≡ top - k = omega arith in
        let b : bit_at w (n - k - (n - top)) ≡ 1 = subst (λ (x : ℕ). bit_at w x ≡ 1) (sym o3) q.2 in
        (o1, near, omega (arith, bit_at_or z 1 (n - k), s.high (n - k) (omega arith) (omega arith), b))) m),
  ),
)

-- a number at or below the highest
pub behind : (top w n : ℕ) → n ≤ top → top < n + 64 → Joins (at top w) n (at top (bit_or w (2 ^ (top - n))))
behind top w n l near = (
  omega arith,
  λ k h. (
    (λ m. ⊎_elim (λ (e : k ≡ n). inl e)
        (λ (ne : k ≡ n → ⊥). let le = m.0 in let ne2 : top - k ≡ top - n → ⊥ = λ x. ne (let o : k ≡ n = omega arith in o) in
        inr (m.0, m.1, omega (arith, m.2, bit_at_or w (2 ^ (top - n)) (top - k), bit_at-pow_other (top - n) (top - k) ne2))) (cases_eq k n)),
    (λ m. ⊎_elim
        (λ (e : k ≡ n). let o1 : k ≤ top = omega arith in (
          o1,
          h,
          subst (λ (x : ℕ). bit_at (bit_or w (2 ^ (top - n))) (top - x) ≡ 1) (sym e)
              (omega (arith, bit_at_or w (2 ^ (top - n)) (top - n), bit_at-pow_same (top - n))),
        ))
        (λ (q : Marked (at top w) k). (q.0, h, omega (arith, q.2, bit_at_or w (2 ^ (top - n)) (top - k)))) m),
  ),
)

-- the facts that a receiver's fields keep
pub ahead-keeps : (top w n z : ℕ) → top < n → Shifted w (n - top) z → ((i : ℕ) → top ≤ i → bit_at w i ≡ 0)
    → (bit_or z 1 % 2 ≡ 1) × ((i : ℕ) → n ≤ i → bit_at (bit_or z 1) i ≡ 0)
ahead-keeps top w n z l s h = (
  omega (arith, or_step z 1),
  λ i le.
      let one = bit-one i (omega arith) in
      let o = bit_at_or z 1 i in
      let b : bit_at z i ≡ 0 =
      ⊎_elim (λ (q : i < 64). s.high i (omega arith) q ∙ h (i - (n - top)) (omega arith)) (λ (q : 64 ≤ i). bit_at_above z 64 i s.fits q) (cases_lt i 64) in
      omega arith,
)

pub behind-keeps : (top w n : ℕ) → 1 ≤ n → n ≤ top → w % 2 ≡ 1 → ((i : ℕ) → top ≤ i → bit_at w i ≡ 0)
    → (bit_or w (2 ^ (top - n)) % 2 ≡ 1) × ((i : ℕ) → top ≤ i → bit_at (bit_or w (2 ^ (top - n))) i ≡ 0)
behind-keeps top w n one l odd h = (
  omega (arith, or_step w (2 ^ (top - n))),
  λ i le.
      let ne : i ≡ top - n → ⊥ = λ e. let o : ⊥ = omega arith in o in
      omega (arith, bit_at_or w (2 ^ (top - n)) i, h i le, bit_at-pow_other (top - n) i ne),
)

-- the test and the fact
pub marked-accepted : (s : Marks) (n : ℕ) → Marked s n → accepted s n ≡ true
marked-accepted s n m =
    rw (le-ltb s.highest n m.0, lt-leb (n + 64) s.highest m.1, eq-eqb (bit_at s.marks (s.highest - n)) 1 m.2) refl

pub accepted-marked : (s : Marks) (n : ℕ) → accepted s n ≡ true → Marked s n
accepted-marked s n e =
    ⊎_elim (λ a. absurd (both_ways _ refl (sym (cond-true (ltb s.highest n) _ _ a) ∙ e)))
    (λ a. let f = sym (cond-false (ltb s.highest n) _ _ a) ∙ e in
    ⊎_elim (λ b. absurd (both_ways _ refl (sym (cond-true (leb (n + 64) s.highest) _ _ b) ∙ f)))
    (λ b. (ltb-false s.highest n a, leb-false (n + 64) s.highest b, eqb-true _ 1 (sym (cond-false (leb (n + 64) s.highest) _ _ b) ∙ f)))
    (cases_Bool (leb (n + 64) s.highest)))
    (cases_Bool (ltb s.highest n))

same_test : (a b : Bool) → (a ≡ true → b ≡ true) → (b ≡ true → a ≡ true) → a ≡ b
same_test true b f g = sym (f refl)
same_test false true f g = g refl
same_test false false f g = refl

pub joins-accepts : (s : Marks) (n : ℕ) (t : Marks) → Joins s n t → Accepts s n t
joins-accepts s n t (top, set) = record {
  highest = top;
  set = λ k near. same_test (accepted t k) (eqb k n || accepted s k)
      (λ a. ⊎_elim (λ q. or_left (eqb k n) (accepted s k) (eq-eqb k n q)) (λ q. or_right (eqb k n) (accepted s k) (marked-accepted s k q)) ((set k near).0 (accepted-marked t k a)))
      (λ b. marked-accepted t k ((set k near).1 (⊎_elim (λ q. inl (eqb-true k n q)) (λ q. inr (accepted-marked s k q)) (or_cases (eqb k n) (accepted s k) b))));
}

-- a number at or below the highest, and not too old, is judged by its mark
pub judged : (s : Marks) (n : ℕ) → 1 ≤ n → n ≤ s.highest → s.highest < n + 64 → (b : Bool) → eqb (bit_at s.marks (s.highest - n)) 1 ≡ b → judging s n ≡ cond b (Err (AcceptedEarlier n)) (Ok tt)
judged s n one le near b e = rw (le-ltb n 1 one, lt-leb (n + 64) s.highest near, le-ltb s.highest n le, e) refl
