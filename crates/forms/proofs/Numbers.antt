-- The scan of a number takes 1 to 13 digits.
use Rattle.std.proofs.Common.{◌≡◌, ℕ, zero, suc, ◌+◌, ◌-◌, ◌*◌, ◌≤◌, eqb, List, [], ◌∷◌, ◌++◌, length, Some, sym, refl, ap, ◌∙◌, arith}
use Rattle.std.proofs.lemmas.Bool.{cond_both, eqb-true, eqb-false}
use Rattle.forms.specs.Decimals.{Decimals, valued, Writes}
use Rattle.forms.specs.Scans.{tenth, Counting, none, some, another, counting, number}
use Rattle.forms.proofs.Digits.{some_is, none-some, tenth-some, tenth-digit}
use Rattle.forms.proofs.Lawful.{Lawful, Machine, After, takes-both, lawful-run}

-- what is taken from each state
abbrev pub NumberWord : Counting → ℕ → List ℕ → Type 0
NumberWord none x w = (ds : List ℕ) × Writes x ds × (w ≡ ds ++ 41 ∷ [])
NumberWord (some n v) x w = (ds : List ℕ) × Decimals ds × (length ds ≤ n) × (x ≡ valued v ds) × (w ≡ ds ++ 41 ∷ [])

first : (q : Counting) (b x : ℕ) (w : List ℕ) → NumberWord q x (b ∷ w) → After NumberWord (counting q b) x w
unfolding valued
first none b x w ([], v, e) = absurd (omega (arith, v.least))
first none b x w (c ∷ cs, v, e) =
    let is : b ≡ c = cc in
    let found : tenth b ≡ Some (c - 48) = ap tenth is ∙ tenth-digit c v.digits.0 v.digits.1 in
    takes-both _ (tenth b) (λ m. After NumberWord m x w) (λ i. none-some (sym i ∙ found)) (λ d i.
    let same : d ≡ c - 48 = some_is (sym i ∙ found) in
    let zeroed : 0 * 10 + (c - 48) ≡ d = omega arith in
    (cs, v.digits.2, omega (arith, v.most), v.value ∙ ap (λ n. valued n cs) zeroed, cc))
first (some n v) b x w ([], ok, short, ex, ew) = cond_both (eqb b 41) _ _ (λ m. After NumberWord m x w) (λ _. (ex, cc)) (λ f. absurd (eqb-false b 41 f (cc)))
first (some n v) b x w (c ∷ cs, ok, short, ex, ew) =
    let is : b ≡ c = cc in
    let found : tenth b ≡ Some (c - 48) = ap tenth is ∙ tenth-digit c ok.0 ok.1 in
    cond_both (eqb b 41) _ _ (λ m. After NumberWord m x w) (λ t. absurd (let z = eqb-true b 41 t in omega (arith, ok.0))) (λ _.
    takes-both _ (tenth b) (λ m. After NumberWord m x w) (λ i. none-some (sym i ∙ found)) (λ d i.
    more n d short (ex ∙ ap (λ k. valued (v * 10 + k) cs) (sym (some_is (sym i ∙ found))))))
  where
    more : (n d : ℕ) → length (c ∷ cs) ≤ n → x ≡ valued (v * 10 + d) cs → After NumberWord (another n (v * 10 + d)) x w
    more zero d short e = absurd (omega arith)
    more (suc n) d short e = (cs, ok.2, omega arith, e, cc)

back : (q : Counting) (b x : ℕ) (w : List ℕ) → After NumberWord (counting q b) x w → NumberWord q x (b ∷ w)
unfolding valued
back none b x w =
    takes-both _ (tenth b) (λ m. After NumberWord m x w → NumberWord none x (b ∷ w)) (λ _ v. absurd v) (λ d e (ds, ok, short, ex, ew).
    let n = tenth-some b d e in
    let zeroed : d ≡ 0 * 10 + (b - 48) = omega (arith, n.2) in
    (b ∷ ds, record { digits = (n.0, n.1, ok); least = omega arith; most = omega arith; value = ex ∙ ap (λ k. valued k ds) zeroed }, ap (λ (l : List ℕ). b ∷ l) ew))
back (some n v) b x w =
    cond_both (eqb b 41) _ _ (λ m. After NumberWord m x w → NumberWord (some n v) x (b ∷ w)) (λ t (ex, ew). let is = eqb-true b 41 t in ([], tt, omega arith, ex, cc)) (λ _.
    takes-both _ (tenth b) (λ m. After NumberWord m x w → NumberWord (some n v) x (b ∷ w)) (λ _ u. absurd u) (λ d e u. more n d (tenth-some b d e) u))
  where
    more : (n d : ℕ) → (48 ≤ b) × (b ≤ 57) × (d ≡ b - 48) → After NumberWord (another n (v * 10 + d)) x w → NumberWord (some n v) x (b ∷ w)
    more zero d i u = absurd u
    more (suc n) d i (ds, ok, short, ex, ew) = (b ∷ ds, (i.0, i.1, ok), omega arith, ex ∙ ap (λ k. valued (v * 10 + k) ds) i.2, ap (λ (l : List ℕ). b ∷ l) ew)

full : (q : Counting) (x : ℕ) → NumberWord q x [] → ⊥
full none x ([], v, e) = let z : ◌≡◌ {A = ℕ} 0 1 = cc in omega arith
full none x (c ∷ cs, v, e) = let z : ◌≡◌ {A = ℕ} 0 1 = cc in omega arith
full (some n v) x ([], ok, short, ex, e) = let z : ◌≡◌ {A = ℕ} 0 1 = cc in omega arith
full (some n v) x (c ∷ cs, ok, short, ex, e) = let z : ◌≡◌ {A = ℕ} 0 1 = cc in omega arith

live : (q : Counting) → (x : ℕ) × (w : List ℕ) × NumberWord q x w
live none = (valued 0 (48 ∷ []), 48 ∷ 41 ∷ [], (48 ∷ [], record { digits = (omega arith, omega arith, tt); least = omega arith; most = omega arith; value = refl }, refl))
live (some n v) = (valued v [], 41 ∷ [], ([], tt, omega arith, refl, refl))

numbers : Machine counting NumberWord
numbers = record { live = live; full = full; first = first; back = back }

pub lawful-number : Lawful (NumberWord none) number
lawful-number = lawful-run numbers none
