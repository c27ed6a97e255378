-- The scan of a byte string takes the spellings of byte strings.
use Rattle.std.proofs.Common.{◌≡◌, ℕ, ◌+◌, ◌*◌, ◌/◌, ◌%◌, ◌<◌, eqb, List, [], ◌∷◌, ◌++◌, Some, None, sym, refl, ap, ◌∙◌, subst, append_assoc, append-nil, arith}
use Rattle.std.proofs.lemmas.Bool.{cond_both, eqb-true, eqb-false}
use Rattle.octets.specs.Strings.{Bytes}
use Rattle.forms.specs.Hex.{digit, pairs, hexed, nibbled}
use Rattle.forms.specs.Scans.{go, takes, Hexing, start, dash, even, odd, hexing, hex}
use Rattle.forms.proofs.Digits.{some_is, none-some, nibbled-some, nibbled-digit, no_digit, digit-high, bytes-head, bytes-tail, bytes-cons, bytes-none, high-low}
use Rattle.forms.proofs.Lawful.{Lawful, Machine, After, takes-both, lawful-run}

module _ (close : ℕ) (shut : nibbled close ≡ None) where
  -- what is taken from each state
  abbrev pub HexWord : Hexing → List ℕ → List ℕ → Type 0
  HexWord start x w = Bytes x × (w ≡ hexed x ++ close ∷ [])
  HexWord dash x w = (x ≡ []) × (w ≡ close ∷ [])
  HexWord (even bs) x w = (cs : List ℕ) × Bytes cs × (x ≡ bs ++ cs) × (w ≡ pairs cs ++ close ∷ [])
  HexWord (odd bs high) x w = (low : ℕ) × (cs : List ℕ) × (low < 16) × Bytes cs × (x ≡ bs ++ (high * 16 + low) ∷ cs) × (w ≡ digit low ∷ (pairs cs ++ close ∷ []))

  -- a digit leads to the state that waits for a second one
  digit-first : (bs : List ℕ) (b c : ℕ) (cs x w : List ℕ) → Bytes (c ∷ cs) → b ≡ digit (c / 16) → x ≡ bs ++ c ∷ cs → w ≡ digit (c % 16) ∷ (pairs cs ++ close ∷ []) → After HexWord (takes (λ high. go (odd bs high)) (nibbled b)) x w
  digit-first bs b c cs x w ok is ex ew =
      let small : c / 16 < 16 = let h = bytes-head c cs ok in omega arith in
      let found : nibbled b ≡ Some (c / 16) = ap nibbled is ∙ nibbled-digit (c / 16) small in
      takes-both (λ high. go (odd bs high)) (nibbled b) (λ m. After HexWord m x w) (λ e. none-some (sym e ∙ found)) (λ high e.
      let same : high ≡ c / 16 = some_is (sym e ∙ found) in
      let whole : c ≡ high * 16 + c % 16 = omega arith in
      (c % 16, cs, omega arith, bytes-tail c cs ok, ex ∙ ap (λ n. bs ++ n ∷ cs) whole, ew))

  first : (q : Hexing) (b : ℕ) (x w : List ℕ) → HexWord q x (b ∷ w) → After HexWord (hexing close q b) x w
  unfolding hexed pairs
  first start b [] w (ok, e) = cond_both (eqb b 45) _ _ (λ m. After HexWord m [] w) (λ _. (refl, cc)) (λ n. absurd (eqb-false b 45 n (cc)))
  first start b (c ∷ cs) w (ok, e) =
      let is : b ≡ digit (c / 16) = cc in
      cond_both (eqb b 45) _ _ (λ m. After HexWord m (c ∷ cs) w) (λ y. absurd (let z = eqb-true b 45 y in let k = digit-high (c / 16) in omega arith)) (λ _. digit-first [] b c cs (c ∷ cs) w ok is refl (cc))
  first dash b x w (ex, ew) = cond_both (eqb b close) _ _ (λ m. After HexWord m x w) (λ _. (ex, cc)) (λ n. eqb-false b close n (cc))
  first (even bs) b x w ([], ok, ex, ew) = cond_both (eqb b close) _ _ (λ m. After HexWord m x w) (λ _. (ex ∙ append-nil bs, cc)) (λ n. absurd (eqb-false b close n (cc)))
  first (even bs) b x w (c ∷ cs, ok, ex, ew) =
      let is : b ≡ digit (c / 16) = cc in
      let small : c / 16 < 16 = let h = bytes-head c cs ok in omega arith in
      cond_both (eqb b close) _ _ (λ m. After HexWord m x w) (λ y. absurd (no_digit close (c / 16) shut small (sym is ∙ eqb-true b close y))) (λ _. digit-first bs b c cs x w ok is ex (cc))
  first (odd bs high) b x w (low, cs, small, ok, ex, ew) =
      let found : nibbled b ≡ Some low = (let is : b ≡ digit low = cc in ap nibbled is) ∙ nibbled-digit low small in
      takes-both _ (nibbled b) (λ m. After HexWord m x w) (λ e. none-some (sym e ∙ found)) (λ l e.
      let same : l ≡ low = some_is (sym e ∙ found) in
      (cs, ok, ex ∙ ap (λ n. bs ++ (high * 16 + n) ∷ cs) (sym same) ∙ sym (append_assoc bs ((high * 16 + l) ∷ []) cs), cc))

  -- two digits spell a byte
  two : (b high low : ℕ) (cs w : List ℕ) → b ≡ digit high → low < 16 → w ≡ digit low ∷ (pairs cs ++ close ∷ []) → b ∷ w ≡ pairs ((high * 16 + low) ∷ cs) ++ close ∷ []
  unfolding pairs
  two b high low cs w eb small ew = let q = (high-low high low small).0 in let r = (high-low high low small).1 in simp (q, r) (cc)

  back : (q : Hexing) (b : ℕ) (x w : List ℕ) → After HexWord (hexing close q b) x w → HexWord q x (b ∷ w)
  unfolding hexed pairs
  back start b x w =
      cond_both (eqb b 45) _ _ (λ m. After HexWord m x w → HexWord start x (b ∷ w)) (λ y (ex, ew). let is = eqb-true b 45 y in (subst Bytes (sym ex) bytes-none, cc)) (λ _.
      takes-both _ (nibbled b) (λ m. After HexWord m x w → HexWord start x (b ∷ w)) (λ _ v. absurd v) (λ high e (low, cs, small, ok, ex, ew). let n = nibbled-some b high e in
      (subst Bytes (sym ex) (bytes-cons (high * 16 + low) cs (omega (arith, n.0)) ok), two b high low cs w n.1 small ew ∙ ap (λ (l : List ℕ). hexed l ++ close ∷ []) (sym ex))))
  back dash b x w = cond_both (eqb b close) _ _ (λ m. After HexWord m x w → HexWord dash x (b ∷ w)) (λ y (ex, ew). let is = eqb-true b close y in (ex, cc)) (λ _ v. absurd v)
  back (even bs) b x w =
      cond_both (eqb b close) _ _ (λ m. After HexWord m x w → HexWord (even bs) x (b ∷ w)) (λ y (ex, ew). let is = eqb-true b close y in ([], bytes-none, ex ∙ sym (append-nil bs), cc)) (λ _.
      takes-both _ (nibbled b) (λ m. After HexWord m x w → HexWord (even bs) x (b ∷ w)) (λ _ v. absurd v) (λ high e (low, cs, small, ok, ex, ew). let n = nibbled-some b high e in
      ((high * 16 + low) ∷ cs, bytes-cons (high * 16 + low) cs (omega (arith, n.0)) ok, ex, two b high low cs w n.1 small ew)))
  back (odd bs high) b x w =
      takes-both _ (nibbled b) (λ m. After HexWord m x w → HexWord (odd bs high) x (b ∷ w)) (λ _ v. absurd v) (λ low e (cs, ok, ex, ew). let n = nibbled-some b low e in let is = n.1 in
      (low, cs, n.0, ok, ex ∙ append_assoc bs ((high * 16 + low) ∷ []) cs, cc))

  full : (q : Hexing) (x : List ℕ) → HexWord q x [] → ⊥
  unfolding hexed pairs
  full start [] (ok, e) = let z : ◌≡◌ {A = ℕ} 0 1 = cc in omega arith
  full start (c ∷ cs) (ok, e) = let z : ◌≡◌ {A = ℕ} 0 1 = cc in omega arith
  full dash x (ex, e) = let z : ◌≡◌ {A = ℕ} 0 1 = cc in omega arith
  full (even bs) x ([], ok, ex, e) = let z : ◌≡◌ {A = ℕ} 0 1 = cc in omega arith
  full (even bs) x (c ∷ cs, ok, ex, e) = let z : ◌≡◌ {A = ℕ} 0 1 = cc in omega arith
  full (odd bs high) x (low, cs, small, ok, ex, e) = let z : ◌≡◌ {A = ℕ} 0 1 = cc in omega arith

  live : (q : Hexing) → (x : List ℕ) × (w : List ℕ) × HexWord q x w
  live start = ([], hexed [] ++ close ∷ [], (bytes-none, refl))
  live dash = ([], close ∷ [], (refl, refl))
  live (even bs) = (bs, pairs [] ++ close ∷ [], ([], bytes-none, sym (append-nil bs), refl))
  live (odd bs high) = (bs ++ (high * 16 + 0) ∷ [], digit 0 ∷ (pairs [] ++ close ∷ []), (0, [], omega arith, bytes-none, refl, refl))

  hexes : Machine (hexing close) HexWord
  hexes = record { live = live; full = full; first = first; back = back }

  pub lawful-hex : Lawful (HexWord start) (hex close)
  lawful-hex = lawful-run hexes start
