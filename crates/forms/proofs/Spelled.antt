-- Whole words that spell byte strings.
use Rattle.std.proofs.Common.{◌≡◌, ℕ, ◌+◌, ◌*◌, ◌/◌, ◌%◌, Bool, true, false, not, ◌&&◌, eqb, List, [], ◌∷◌, length, is_some, Some, None, codes, Option, unwrap_or, sym, refl, ap, ◌∙◌, subst, ap₂, arith}
use Rattle.octets.specs.Strings.{Bytes}
use Rattle.std.specs.Str.{bytes_eq}
use Rattle.std.proofs.lemmas.Bool.{cond-true, cond-false, cond_both, eq-eqb, eqb-true, eqb-false, ne_eqb, false≢true}
use Rattle.std.proofs.lemmas.Slice.Eq.{bytes_eq-Decides}
use Rattle.forms.specs.Hex.{digit, digits, hexed, nibbled, pairs, paired, unhexed, worth, spelled_by, Spelt}
use Rattle.forms.proofs.Digits.{some_is, none-some, nibbled-some, nibbled-digit, bytes-head, bytes-tail, bytes-cons, bytes-none, high-low, unhexed-hexed}

pub dash-spells : (w : List ℕ) → bytes_eq w (codes "-") ≡ true → Some (unhexed w) ≡ spelled_by w
unfolding unhexed
dash-spells w e =
    let i : w ≡ codes "-" = (bytes_eq-Decides w (codes "-")).0 e in
    ap (λ (l : List ℕ). Some (unhexed l)) i ∙ sym (cond-true (bytes_eq w (codes "-")) (Some []) _ e)

module _ (w : List ℕ) (d : bytes_eq w (codes "-") ≡ false) where
  pub pairs-spell : paired w ≡ true → Some (unhexed w) ≡ spelled_by w
  pairs-spell e = sym (cond-false (bytes_eq w (codes "-")) _ _ d ∙ cond-true (paired w) _ _ e)

  pub none-spells : paired w ≡ false → None ≡ spelled_by w
  none-spells e = sym (cond-false (bytes_eq w (codes "-")) _ _ d ∙ cond-false (paired w) _ _ e)

-- what is spelt is read
pairs-digits : (bs : List ℕ) → Bytes bs → digits (pairs bs) ≡ true
unfolding pairs
pairs-digits [] ok = refl
pairs-digits (b ∷ bs) ok =
    let small = bytes-head b bs ok in
    let high : is_some (nibbled (digit (b / 16))) ≡ true = ap is_some (nibbled-digit (b / 16) (omega arith)) in
    let low : is_some (nibbled (digit (b % 16))) ≡ true = ap is_some (nibbled-digit (b % 16) (omega arith)) in
    rw (high, low) (pairs-digits bs (bytes-tail b bs ok))

pairs-long : (bs : List ℕ) → length (pairs bs) ≡ 2 * length bs
unfolding pairs
pairs-long [] = refl
pairs-long (b ∷ bs) = let e = pairs-long bs in omega arith

no-dash : (b : ℕ) (bs : List ℕ) → bytes_eq (pairs (b ∷ bs)) (codes "-") ≡ false
unfolding pairs
no-dash b bs = none_after (eqb (digit (b / 16)) 45)
  where
    none_after : (t : Bool) → (t && false) ≡ false
    none_after true = refl
    none_after false = refl

-- the parts of the test
both : (a b : Bool) → (a && b) ≡ true → (a ≡ true) × (b ≡ true)
both true b e = (refl, e)
both false b e = absurd (false≢true e)

pub spelled-hexed : (bs : List ℕ) → Bytes bs → spelled_by (hexed bs) ≡ Some bs
unfolding hexed
spelled-hexed [] ok = refl
spelled-hexed (b ∷ bs) ok =
    let w = pairs (b ∷ bs) in
    let long = pairs-long (b ∷ bs) in
    let some : eqb (length w) 0 ≡ false = ne_eqb (length w) 0 (λ e. omega arith) in
    let even : eqb (length w % 2) 0 ≡ true = eq-eqb (length w % 2) 0 (omega arith) in
    let all = pairs-digits (b ∷ bs) ok in
    sym (pairs-spell w (no-dash b bs) (rw (some, even, all) refl)) ∙ ap Some (unhexed-hexed (b ∷ bs) ok)

-- what is read is spelt
valued-some : (c : ℕ) → is_some (nibbled c) ≡ true → (d : ℕ) × (nibbled c ≡ Some d)
valued-some c e = at (nibbled c) refl e
  where
    at : (o : Option ℕ) → nibbled c ≡ o → is_some o ≡ true → (d : ℕ) × (nibbled c ≡ Some d)
    at None i t = absurd (false≢true t)
    at (Some d) i t = (d, i)

pairs-back : (w : List ℕ) → digits w ≡ true → length w % 2 ≡ 0 → (pairs (unhexed w) ≡ w) × Bytes (unhexed w)
unfolding pairs unhexed
pairs-back [] e even = (refl, bytes-none)
pairs-back (c ∷ []) e even = absurd (omega arith)
pairs-back (h ∷ l ∷ cs) e even =
    let (sh, rest) = both (is_some (nibbled h)) (digits (l ∷ cs)) e in
    let (sl, tail) = both (is_some (nibbled l)) (digits cs) rest in
    let (m, em) = valued-some h sh in
    let (n, en) = valued-some l sl in
    let (small, eh) = nibbled-some h m em in
    let (few, el) = nibbled-some l n en in
    let wh : worth h ≡ m = ap (λ o. unwrap_or o 0) em in
    let wl : worth l ≡ n = ap (λ o. unwrap_or o 0) en in
    let q = high-low (worth h) (worth l) (omega arith) in
    let more = pairs-back cs tail (omega arith) in (
      ap₂ (λ x y. digit x ∷ digit y ∷ pairs (unhexed cs)) (q.0 ∙ wh) (q.1 ∙ wl) ∙ ap₂ (λ x y. x ∷ y ∷ pairs (unhexed cs)) (sym eh) (sym el) ∙ ap (λ (k : List ℕ). h ∷ l ∷ k) more.0,
      bytes-cons (worth h * 16 + worth l) (unhexed cs) (omega arith) more.1,
    )

dashed : (w b : List ℕ) → bytes_eq w (codes "-") ≡ true → [] ≡ b → Bytes b × (w ≡ hexed b)
unfolding hexed
dashed w b t e = (subst Bytes e bytes-none, (bytes_eq-Decides w (codes "-")).0 t ∙ ap hexed e)

some_pairs : (w u : List ℕ) → eqb (length w) 0 ≡ false → pairs u ≡ w → w ≡ hexed u
unfolding pairs hexed
some_pairs w [] some k = absurd (eqb-false (length w) 0 some (ap length (sym k)))
some_pairs w (x ∷ u) some k = sym k

not-true : (b : Bool) → not b ≡ true → b ≡ false
not-true true e = absurd (false≢true e)
not-true false e = refl

pair_up : (w b : List ℕ) → paired w ≡ true → unhexed w ≡ b → Bytes b × (w ≡ hexed b)
pair_up w b e is =
    let (front, all) = both (not (eqb (length w) 0) && eqb (length w % 2) 0) (digits w) e in
    let (some, even) = both (not (eqb (length w) 0)) (eqb (length w % 2) 0) front in
    let back = pairs-back w all (eqb-true (length w % 2) 0 even) in
    (subst Bytes is back.1, some_pairs w (unhexed w) (not-true (eqb (length w) 0) some) back.0 ∙ ap hexed is)

pub spelled_is : (w b : List ℕ) → spelled_by w ≡ Some b → Bytes b × (w ≡ hexed b)
spelled_is w b =
    let P : Option (List ℕ) → Type 0 = λ o. o ≡ Some b → Bytes b × (w ≡ hexed b) in
    cond_both (bytes_eq w (codes "-")) (Some []) _ P (λ t e. dashed w b t (some_is e)) (λ d. cond_both (paired w) (Some (unhexed w)) None P (λ t e. pair_up w b t (some_is e)) (λ _ e. none-some e))

pub spelt : (w : List ℕ) (o : Option (List ℕ)) → o ≡ spelled_by w → Spelt w o
spelt w (Some b) e = spelled_is w b (sym e)
spelt w None e = λ b ok i. none-some (e ∙ ap spelled_by i ∙ spelled-hexed b ok)
