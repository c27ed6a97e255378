-- The turns of the reader's loops: each leaves what the scan still answers as it was.
use Rattle.std.proofs.Common.{◌≡◌, ℕ, suc, ◌+◌, ◌-◌, ◌*◌, ◌^◌, ◌<◌, ◌≤◌, Bool, true, false, cond, eqb, ◌⊎◌, List, [], ◌∷◌, ◌++◌, length, get_or, take, drop, set, Some, None, Ok, Err, Option, sym, refl, ap, ◌∙◌, inl, inr, ⊎_elim, append_assoc, arith, lit≤, length-append}
use native.Mathlib.Nat.{pow-le-pow_right}
use native.Mathlib.Numerals.{unary_clauses}
use Rattle.std.proofs.lemmas.List.{drop_more, take_more_set, take_at, take_all}
use Rattle.std.proofs.lemmas.Bool.{cond-true, cond-false}
use Rattle.forms.specs.Hex.{nibbled, hexed, unhexed}
use Rattle.forms.specs.Scans.{Got, pure, onward, bind, Move, go, done, stuck, run, takes, one, is, literal, byte, bytes, tenth, Hexing, start, dash, even, odd, hexing, hex, none, some, another, counting, number}
use Rattle.forms.proofs.Digits.{none-some, unhexed-hexed}
use Rattle.forms.proofs.Hexes.{lawful-hex}
use Rattle.forms.proofs.Lawful.{clash, ok-parts}
use Rattle.forms.proofs.Rests.{one-taken, one_left, bind_ok, bind-err}

-- the byte that was looked for
is-taken : (b c : ℕ) (u : Unit {0}) → is b c ≡ Some u → eqb c b ≡ true
is-taken b c u e = at (eqb c b) e
  where
    at : (t : Bool) → cond t (Some tt) None ≡ Some u → t ≡ true
    at true e = refl
    at false e = none-some e

is-left : (b c : ℕ) → is b c ≡ None → eqb c b ≡ false
is-left b c e = at (eqb c b) e
  where
    at : (t : Bool) → ◌≡◌ {A = Option (Unit {0})} (cond t (Some tt) None) None → t ≡ false
    at true e = none-some (sym e)
    at false e = refl

-- one byte of a machine
module _ {Q X : Type 0} (step : Q → ℕ → Move Q X) (q : Q) where
  run-go : (r : Q) (b : ℕ) (s : List ℕ) → step q b ≡ go r → run step q (b ∷ s) ≡ run step r s
  unfolding run
  run-go r b s e = rw e refl

  run-done : (x : X) (b : ℕ) (s : List ℕ) → step q b ≡ done x → run step q (b ∷ s) ≡ Ok (x, s)
  unfolding run
  run-done x b s e = rw e refl

  run-stuck : (s t : List ℕ) → t ≡ s → ((b : ℕ) (r : List ℕ) → s ≡ b ∷ r → step q b ≡ stuck) → Err t ≡ run step q s
  unfolding run
  run-stuck [] t e k = ap Err e
  run-stuck (b ∷ s) t e k = rw (k b s refl) (ap Err e)

-- a literal
pub literal-more : (text s t : List ℕ) (i : ℕ) → i < length text → Ok (tt, t) ≡ one (is (get_or text i 0)) s → literal (drop i text) s ≡ literal (drop (i + 1) text) t
unfolding literal
literal-more text s t i h e = ap (λ (l : List ℕ). literal l s) (drop_more text i 0 h) ∙ bind_ok _ _ s t tt e

pub literal-stuck : (text s t : List ℕ) (i : ℕ) → i < length text → Err t ≡ one (is (get_or text i 0)) s → Err t ≡ literal (drop i text) s
unfolding literal
literal-stuck text s t i h e = bind-err _ _ s t e ∙ ap (λ (l : List ℕ). literal l s) (sym (drop_more text i 0 h))

-- the digits of the name of a line
pub name-more : (name s t : List ℕ) (i b : ℕ) → i < 8 → length name ≡ 8 → Ok (b, t) ≡ byte s → bytes (8 - i) (take i name) s ≡ bytes (8 - (i + 1)) (take (i + 1) (set name i b)) t
unfolding bytes
name-more name s t i b h long e =
    let n : 8 - i ≡ suc (8 - (i + 1)) = omega arith in
    ap (λ k. bytes k (take i name) s) n ∙ bind_ok _ _ s t b e ∙ ap (λ (l : List ℕ). bytes (8 - (i + 1)) l t) (sym (take_more_set name i b (omega arith)))

pub name-stuck : (name s t : List ℕ) (i : ℕ) → i < 8 → Err t ≡ byte s → Err t ≡ bytes (8 - i) (take i name) s
unfolding bytes
name-stuck name s t i h e = let n : 8 - i ≡ suc (8 - (i + 1)) = omega arith in bind-err _ _ s t e ∙ ap (λ k. bytes k (take i name) s) (sym n)

pub name-all : (name s : List ℕ) (i : ℕ) → 8 ≤ i → length name ≡ 8 → bytes (8 - i) (take i name) s ≡ Ok (name, s)
unfolding bytes
name-all name s i h long = let n : 8 - i ≡ 0 = omega arith in ap (λ k. bytes k (take i name) s) n ∙ ap (λ (l : List ℕ). Ok (l, s)) (take_all i name (omega arith))

-- the digits of a number
pub number-first : (s t : List ℕ) (d : ℕ) → Ok (d, t) ≡ one tenth s → number s ≡ run counting (some 12 d) t
number-first s t d e = let a = one-taken tenth s t d e in ap number a.1 ∙ run-go counting none (some 12 d) a.0 t (ap (takes _) a.2)

pub number-none : (s t : List ℕ) → Err t ≡ one tenth s → Err t ≡ number s
number-none s t e = let a = one_left tenth s t e in run-stuck counting none s t a.0 (λ c u i. ap (takes _) (a.1 c u i))

module _ (n v : ℕ) (s : List ℕ) where
  pub number-closed : (t : List ℕ) → Ok (tt, t) ≡ one (is 41) s → Ok (v, t) ≡ run counting (some n v) s
  number-closed t e = let a = one-taken (is 41) s t tt e in sym (ap (run counting (some n v)) a.1 ∙ run-done counting (some n v) v a.0 t (cond-true (eqb a.0 41) _ _ (is-taken 41 a.0 tt a.2)))

  module _ (r : List ℕ) (e : Err r ≡ one (is 41) s) where
    open-still : (b : ℕ) (t : List ℕ) → s ≡ b ∷ t → counting (some n v) b ≡ takes (λ d. another n (v * 10 + d)) (tenth b)
    open-still b t i = cond-false (eqb b 41) _ _ (is-left 41 b ((one_left (is 41) s r e).1 b t i))

    pub number_more : (t : List ℕ) (m d : ℕ) → n ≡ suc m → Ok (d, t) ≡ one tenth r → run counting (some n v) s ≡ run counting (some m (v * 10 + d)) t
    number_more t m d left f =
        let a = one-taken tenth r t d f in
        let i = sym (one_left (is 41) s r e).0 ∙ a.1 in
        ap (run counting (some n v)) i ∙ run-go counting (some n v) (some m (v * 10 + d)) a.0 t (open-still a.0 t i ∙ ap (takes _) a.2 ∙ ap (λ k. another k (v * 10 + d)) left)

    pub number-stuck : (t : List ℕ) → Err t ≡ one tenth r → Err t ≡ run counting (some n v) s
    number-stuck t f =
        let a = one_left tenth r t f in
        let b = (one_left (is 41) s r e).0 in
        run-stuck counting (some n v) s t (a.0 ∙ b) (λ c u i. open-still c u i ∙ ap (takes _) (a.1 c u (b ∙ i)))

    pub number-full : n ≡ 0 → Err r ≡ run counting (some n v) s
    number-full left = run-stuck counting (some n v) s r (one_left (is 41) s r e).0 (λ c u i. open-still c u i ∙ none_more (tenth c))
      where
        none_more : (o : Option ℕ) → takes (λ d. another n (v * 10 + d)) o ≡ stuck
        none_more None = refl
        none_more (Some d) = ap (λ k. another k (v * 10 + d)) left

-- the number so far
pub ten-more : (n : ℕ) → 10 ^ (n + 1) ≡ 10 ^ n * 10
ten-more n = simp unary_clauses

pub small-enough : (count value : ℕ) → count < 13 → value < 10 ^ count → value < 10 ^ 12
small-enough count value few small = omega (arith, pow-le-pow_right {n = 10} (lit≤ tt) {i = count} {j = 12} (omega arith))

-- the two digits of a byte
byte-taken : (s t : List ℕ) (b : ℕ) → Ok (b, t) ≡ byte s → (high low : ℕ) × (r : List ℕ) × (Ok (high, r) ≡ one nibbled s) × (Ok (low, t) ≡ one nibbled r) × (b ≡ high * 16 + low)
unfolding byte bind
byte-taken s t b e = at (one nibbled s) refl e
  where
    then : (high : ℕ) (r : List ℕ) → Ok (high, r) ≡ one nibbled s → (g : Got ℕ) → g ≡ one nibbled r → Ok (b, t) ≡ onward (λ low. pure (high * 16 + low)) g → (high low : ℕ) × (r : List ℕ) × (Ok (high, r) ≡ one nibbled s) × (Ok (low, t) ≡ one nibbled r) × (b ≡ high * 16 + low)
    then high r i (Ok (low, u)) j e = let k = ok-parts e in (high, low, r, i, ap (λ (l : List ℕ). Ok (low, l)) k.1 ∙ j, k.0)
    then high r i (Err u) j e = clash e

    at : (g : Got ℕ) → g ≡ one nibbled s → Ok (b, t) ≡ onward (λ high. bind (one nibbled) (λ low. pure (high * 16 + low))) g → (high low : ℕ) × (r : List ℕ) × (Ok (high, r) ≡ one nibbled s) × (Ok (low, t) ≡ one nibbled r) × (b ≡ high * 16 + low)
    at (Ok (high, r)) i e = then high r i (one nibbled r) refl e
    at (Err r) i e = clash e

byte_left : (s t : List ℕ) → Err t ≡ byte s → (Err t ≡ one nibbled s) ⊎ ((high : ℕ) × (r : List ℕ) × (Ok (high, r) ≡ one nibbled s) × (Err t ≡ one nibbled r))
unfolding byte bind
byte_left s t e = at (one nibbled s) refl e
  where
    then : (high : ℕ) (r : List ℕ) → Ok (high, r) ≡ one nibbled s → (g : Got ℕ) → g ≡ one nibbled r → Err t ≡ onward (λ low. pure (high * 16 + low)) g → (Err t ≡ one nibbled s) ⊎ ((high : ℕ) × (r : List ℕ) × (Ok (high, r) ≡ one nibbled s) × (Err t ≡ one nibbled r))
    then high r i (Ok (low, u)) j e = clash (sym e)
    then high r i (Err u) j e = inr (high, r, i, e ∙ j)

    at : (g : Got ℕ) → g ≡ one nibbled s → Err t ≡ onward (λ high. bind (one nibbled) (λ low. pure (high * 16 + low))) g → (Err t ≡ one nibbled s) ⊎ ((high : ℕ) × (r : List ℕ) × (Ok (high, r) ≡ one nibbled s) × (Err t ≡ one nibbled r))
    at (Ok (high, r)) i e = then high r i (one nibbled r) refl e
    at (Err r) i e = inl (e ∙ i)

pub byte-shorter : {X : Type 0} (f : ℕ → Option X) (s r t : List ℕ) (b : ℕ) → Err r ≡ one f s → Ok (b, t) ≡ byte r → length t < length s
byte-shorter f s r t b e g =
    let k = ap length (one_left f s r e).0 in
    let (high, low, u, i, j, m) = byte-taken r t b g in
    let v = ap length (one-taken nibbled r u high i).1 in
    let w = ap length (one-taken nibbled u t low j).1 in
    omega arith

module _ (close : ℕ) where
  second-digit : (bs s t : List ℕ) (high low : ℕ) → Ok (low, t) ≡ one nibbled s → run (hexing close) (odd bs high) s ≡ run (hexing close) (even (bs ++ (high * 16 + low) ∷ [])) t
  second-digit bs s t high low e = let a = one-taken nibbled s t low e in ap (run (hexing close) (odd bs high)) a.1 ∙ run-go (hexing close) (odd bs high) _ a.0 t (ap (takes _) a.2)

  second-left : (bs s t : List ℕ) (high : ℕ) → Err t ≡ one nibbled s → Err t ≡ run (hexing close) (odd bs high) s
  second-left bs s t high e = let a = one_left nibbled s t e in run-stuck (hexing close) (odd bs high) s t a.0 (λ c u i. ap (takes _) (a.1 c u i))

  -- from a state in which a digit may come, and x otherwise
  module _ (q : Hexing) (bs : List ℕ) (x : ℕ) (waits : (b : ℕ) → eqb b x ≡ false → hexing close q b ≡ takes (λ high. go (odd bs high)) (nibbled b)) (s r : List ℕ) (e : Err r ≡ one (is x) s) where
    pair-more : (t : List ℕ) (b : ℕ) → Ok (b, t) ≡ byte r → run (hexing close) q s ≡ run (hexing close) (even (bs ++ b ∷ [])) t
    pair-more t b f =
        let k = one_left (is x) s r e in
        let (high, low, u, i, j, m) = byte-taken r t b f in
        let a = one-taken nibbled r u high i in
        let n = sym k.0 ∙ a.1 in
        ap (run (hexing close) q) n ∙ run-go (hexing close) q (odd bs high) a.0 u (waits a.0 (is-left x a.0 (k.1 a.0 u n)) ∙ ap (takes _) a.2)
        ∙ second-digit bs u t high low j ∙ ap (λ y. run (hexing close) (even (bs ++ y ∷ [])) t) (sym m)

    pair_stuck : (t : List ℕ) → Err t ≡ byte r → Err t ≡ run (hexing close) q s
    pair_stuck t f =
        let k = one_left (is x) s r e in
        ⊎_elim
        (λ i. let a = one_left nibbled r t i in
        run-stuck (hexing close) q s t (a.0 ∙ k.0) (λ c u n. waits c (is-left x c (k.1 c u n)) ∙ ap (takes _) (a.1 c u (k.0 ∙ n))))
        (λ (high, u, i, j). let a = one-taken nibbled r u high i in
        let n = sym k.0 ∙ a.1 in
        second-left bs u t high j ∙ sym (ap (run (hexing close) q) n ∙ run-go (hexing close) q (odd bs high) a.0 u (waits a.0 (is-left x a.0 (k.1 a.0 u n)) ∙ ap (takes _) a.2)))
        (byte_left r t f)

  module _ (s r : List ℕ) (e : Err r ≡ one (is 45) s) where
    pub hex-first : (t : List ℕ) (b : ℕ) → Ok (b, t) ≡ byte r → hex close s ≡ run (hexing close) (even (b ∷ [])) t
    hex-first = pair-more start [] 45 (λ b n. cond-false (eqb b 45) _ _ n) s r e

    pub hex-none : (t : List ℕ) → Err t ≡ byte r → Err t ≡ hex close s
    hex-none = pair_stuck start [] 45 (λ b n. cond-false (eqb b 45) _ _ n) s r e

  module _ (bs s r : List ℕ) (e : Err r ≡ one (is close) s) where
    pub hex-more : (t : List ℕ) (b : ℕ) → Ok (b, t) ≡ byte r → run (hexing close) (even bs) s ≡ run (hexing close) (even (bs ++ b ∷ [])) t
    hex-more = pair-more (even bs) bs close (λ b n. cond-false (eqb b close) _ _ n) s r e

    pub hex-stuck : (t : List ℕ) → Err t ≡ byte r → Err t ≡ run (hexing close) (even bs) s
    hex-stuck = pair_stuck (even bs) bs close (λ b n. cond-false (eqb b close) _ _ n) s r e

  pub hex-closed : (bs s t : List ℕ) → Ok (tt, t) ≡ one (is close) s → Ok (bs, t) ≡ run (hexing close) (even bs) s
  hex-closed bs s t e =
      let a = one-taken (is close) s t tt e in
      sym (ap (run (hexing close) (even bs)) a.1 ∙ run-done (hexing close) (even bs) bs a.0 t (cond-true (eqb a.0 close) _ _ (is-taken close a.0 tt a.2)))

  dash-first : (s r : List ℕ) → Ok (tt, r) ≡ one (is 45) s → hex close s ≡ run (hexing close) dash r
  dash-first s r e =
      let a = one-taken (is 45) s r tt e in
      ap (hex close) a.1 ∙ run-go (hexing close) start dash a.0 r (cond-true (eqb a.0 45) _ _ (is-taken 45 a.0 tt a.2))

  pub dash-closed : (s r t : List ℕ) → Ok (tt, r) ≡ one (is 45) s → Ok (tt, t) ≡ one (is close) r → Ok ([], t) ≡ hex close s
  dash-closed s r t e f =
      let a = one-taken (is close) r t tt f in
      sym (dash-first s r e ∙ ap (run (hexing close) dash) a.1 ∙ run-done (hexing close) dash [] a.0 t (cond-true (eqb a.0 close) _ _ (is-taken close a.0 tt a.2)))

  pub dash-stuck : (s r t : List ℕ) → Ok (tt, r) ≡ one (is 45) s → Err t ≡ one (is close) r → Err t ≡ hex close s
  dash-stuck s r t e f =
      let a = one_left (is close) r t f in
      run-stuck (hexing close) dash r t a.0 (λ c u i. cond-false (eqb c close) _ _ (is-left close c (a.1 c u i))) ∙ sym (dash-first s r e)

  -- what was taken of the line is the spelling
  pub hex-taken : nibbled close ≡ None → (s t bs : List ℕ) → Ok (bs, t) ≡ hex close s → (1 + length t ≤ length s) × ((n : ℕ) → n ≡ length s - length t - 1 → unhexed (take n s) ≡ bs)
  hex-taken shut s t bs e =
      let (w, (ok, ew), es) = (lawful-hex close shut).right bs s t (sym e) in
      let whole : s ≡ hexed bs ++ close ∷ t = es ∙ ap (λ (l : List ℕ). l ++ t) ew ∙ append_assoc (hexed bs) (close ∷ []) t in
      let long : length s ≡ length (hexed bs) + 1 + length t = ap length whole ∙ length-append (hexed bs) (close ∷ t) ∙ omega arith in
      (omega arith, λ n is. ap unhexed (ap (take n) whole ∙ take_at (hexed bs) (close ∷ t) n (omega arith)) ∙ unhexed-hexed bs ok)

pub unhexed-one : (s : List ℕ) → unhexed (take 1 s) ≡ []
unfolding unhexed
unhexed-one [] = refl
unhexed-one (b ∷ s) = refl
