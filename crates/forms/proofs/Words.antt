-- The scans of the parts and of the forms take what the parts and the forms are spelt.
use Rattle.std.proofs.Common.{◌≡◌, ℕ, zero, suc, ◌+◌, ◌*◌, ◌/◌, ◌%◌, ◌<◌, cond, eqb, List, [], ◌∷◌, ◌++◌, length, Some, None, codes, Option, sym, refl, ap, ◌∙◌, subst, append_assoc, append-nil, arith}
use Rattle.std.proofs.lemmas.Bool.{cond_both, eqb-true, eq-eqb}
use Rattle.octets.specs.Strings.{Bytes}
use Rattle.forms.specs.declared.opening.Pile.{Pile}
use Rattle.forms.specs.declared.opening.Pile.TheVariants.{A, B}
use Rattle.forms.specs.Decimals.{Writes}
use Rattle.forms.specs.Hex.{digit, pairs, hexed, nibbled}
use Rattle.forms.specs.Scans.{done, takes, one, is, literal, byte, bytes, piled, keys, line_name, first_number, opened, ends, word, strings, of_strings}
use Rattle.forms.specs.Spelling.{letter, Opens}
use Rattle.forms.proofs.Digits.{some_is, none-some, nibbled-some, nibbled-digit, bytes-head, bytes-tail, bytes-cons, bytes-none}
use Rattle.forms.proofs.Hexes.{lawful-hex}
use Rattle.forms.proofs.Lawful.{Lawful, Machine, After, takes-both, Nothing, Then, lawful-pure, lawful-iff, lawful-bind, lawful-run}
use Rattle.forms.proofs.Numbers.{lawful-number}

-- one byte of which f has the value x
abbrev pub OneWord : {X : Type 0} → (ℕ → Option X) → X → List ℕ → Type 0
OneWord f x w = (b : ℕ) × (f b ≡ Some x) × (w ≡ b ∷ [])

module _ {X : Type 0} (f : ℕ → Option X) (b₀ : ℕ) (x₀ : X) (e₀ : f b₀ ≡ Some x₀) where
  ones : Machine (λ (_ : Unit {0}) b. takes done (f b)) (λ (_ : Unit {0}). OneWord f)
  ones = record {
    live = λ _. (x₀, b₀ ∷ [], (b₀, e₀, refl));
    full = λ _ x (b, e, ew). let z : ◌≡◌ {A = ℕ} 0 1 = cc in omega arith;
    first = λ _ b x w (c, e, ew). let is : f b ≡ Some x = (let s : b ≡ c = cc in ap f s) ∙ e in
        takes-both done (f b) (λ m. After (λ (_ : Unit {0}). OneWord f) m x w) (λ i. none-some (sym i ∙ is)) (λ y i. (some_is (sym is ∙ i), cc));
    back = λ _ b x w. takes-both done (f b) (λ m. After (λ (_ : Unit {0}). OneWord f) m x w → OneWord f x (b ∷ w)) (λ _ v. absurd v) (λ y i (ex, ew). (b, i ∙ ap Some (sym ex), ap (λ (l : List ℕ). b ∷ l) ew));
  }

  pub lawful-one : Lawful (OneWord f) (one f)
  unfolding one
  lawful-one = lawful-run ones tt

is_some : (b c : ℕ) (u : Unit {0}) → is b c ≡ Some u → c ≡ b
is_some b c u = cond_both (eqb c b) (Some tt) None (λ o. o ≡ Some u → c ≡ b) (λ t _. eqb-true c b t) (λ _ e. none-some e)

is_same : (b : ℕ) → is b b ≡ Some tt
is_same b = ap (λ t. cond t (Some tt) None) (eq-eqb b b refl)

pub lawful-literal : (text : List ℕ) → Lawful (λ _ w. w ≡ text) (literal text)
unfolding literal
lawful-literal [] = lawful-iff (λ u w v. v.1) (λ u w e. (refl, e)) (lawful-pure tt)
lawful-literal (b ∷ bs) =
    lawful-iff (λ u w (x, p, q, (c, i, ep), eq, e). let same = is_some b c x i in cc) (λ u w e. (tt, b ∷ [], bs, (b, is_same b, refl), refl, e)) (lawful-bind (lawful-one (is b) b tt (is_same b)) (λ _. lawful-literal bs))

-- two digits
abbrev pub ByteWord : ℕ → List ℕ → Type 0
ByteWord b w = (b < 256) × (w ≡ digit (b / 16) ∷ digit (b % 16) ∷ [])

pub lawful-byte : Lawful ByteWord byte
unfolding byte
lawful-byte = lawful-iff to from (lawful-bind digits (λ high. lawful-bind digits (λ low. lawful-pure (high * 16 + low))))
  where
    digits : Lawful (OneWord nibbled) (one nibbled)
    digits = lawful-one nibbled (digit 0) 0 (nibbled-digit 0 (omega arith))

    to : (b : ℕ) (w : List ℕ) → Then (OneWord nibbled) (λ high. Then (OneWord nibbled) (λ low. Nothing (high * 16 + low))) b w → ByteWord b w
    to b w (high, u, v, (c, i, eu), (low, s, t, (d, j, es), (eb, et), ev), ew) =
        let m = nibbled-some c high i in
        let n = nibbled-some d low j in
        let q : b / 16 ≡ high = omega (arith, eb, n.0) in
        let r : b % 16 ≡ low = omega (arith, eb, n.0) in
        let ec = m.1 in
        let ed = n.1 in
        (omega (arith, eb, n.0, m.0), simp (q, r) (cc))

    from : (b : ℕ) (w : List ℕ) → ByteWord b w → Then (OneWord nibbled) (λ high. Then (OneWord nibbled) (λ low. Nothing (high * 16 + low))) b w
    from b w (h, e) =
        (b / 16, digit (b / 16) ∷ [], digit (b % 16) ∷ [], (digit (b / 16), nibbled-digit (b / 16) (omega arith), refl), (b % 16, digit (b % 16) ∷ [], [], (digit (b % 16), nibbled-digit (b % 16) (omega arith), refl), (omega arith, refl), refl), e)

-- two digits for each of n bytes
abbrev pub BytesWord : ℕ → List ℕ → List ℕ → List ℕ → Type 0
BytesWord n so_far x w = (bs : List ℕ) × Bytes bs × (length bs ≡ n) × (x ≡ so_far ++ bs) × (w ≡ pairs bs)

pub lawful-bytes : (n : ℕ) (so_far : List ℕ) → Lawful (BytesWord n so_far) (bytes n so_far)
unfolding bytes pairs
lawful-bytes zero so_far = lawful-iff to from (lawful-pure so_far)
  where
    to : (x w : List ℕ) → Nothing so_far x w → BytesWord zero so_far x w
    to x w (ex, ew) = ([], bytes-none, refl, ex ∙ sym (append-nil so_far), ew)

    from : (x w : List ℕ) → BytesWord zero so_far x w → Nothing so_far x w
    from x w ([], ok, long, ex, ew) = (ex ∙ append-nil so_far, ew)
    from x w (b ∷ bs, ok, long, ex, ew) = absurd (omega arith)
lawful-bytes (suc n) so_far = lawful-iff to from (lawful-bind lawful-byte (λ b. lawful-bytes n (so_far ++ b ∷ [])))
  where
    to : (x w : List ℕ) → Then ByteWord (λ b. BytesWord n (so_far ++ b ∷ [])) x w → BytesWord (suc n) so_far x w
    to x w (b, u, v, (small, eu), (bs, ok, long, ex, ev), ew) = (b ∷ bs, bytes-cons b bs small ok, omega arith, ex ∙ append_assoc so_far (b ∷ []) bs, cc)

    from : (x w : List ℕ) → BytesWord (suc n) so_far x w → Then ByteWord (λ b. BytesWord n (so_far ++ b ∷ [])) x w
    from x w ([], ok, long, ex, ew) = absurd (omega arith)
    from x w (b ∷ bs, ok, long, ex, ew) = (b, _, pairs bs, (bytes-head b bs ok, refl), (bs, bytes-tail b bs ok, omega arith, ex ∙ sym (append_assoc so_far (b ∷ []) bs), refl), ew)

-- the keys, the name of the line and the first number, each with what stands before and after it
abbrev KeysWord : List ℕ × List ℕ × List ℕ → List ℕ → Type 0
KeysWord k w = Bytes k.0 × Bytes k.1 × Bytes k.2 × (w ≡ codes ") (keys " ++ hexed k.0 ++ codes " " ++ hexed k.1 ++ codes " " ++ hexed k.2 ++ codes ")")

abbrev NameWord : List ℕ → List ℕ → Type 0
NameWord n w = Bytes n × (length n ≡ 8) × (w ≡ codes " (line " ++ pairs n ++ codes ")")

abbrev FirstWord : ℕ → List ℕ → Type 0
FirstWord n w = (ds : List ℕ) × Writes n ds × (w ≡ codes " (first " ++ ds ++ codes "))")

-- the byte after a byte string is no digit
pub space : nibbled 32 ≡ None
space = refl

pub bracket : nibbled 41 ≡ None
bracket = refl

lawful-keys : Lawful KeysWord keys
unfolding keys
lawful-keys =
    lawful-iff (λ k w (_, u₀, v₀, e₀, (a, u₁, v₁, (oka, e₁), (b, u₂, v₂, (okb, e₂), (c, u₃, v₃, (okc, e₃), (ek, e₄), z₃), z₂), z₁), z₀).
    subst (λ x. KeysWord x w) (sym ek) (oka, okb, okc, z₀ ∙ simp (z₁, z₂, z₃, e₀, e₁, e₂, e₃, e₄, append_assoc)))
    (λ k w (oka, okb, okc, e). (tt, codes ") (keys ", _, refl, (k.0, _, _, (oka, refl), (k.1, _, _, (okb, refl), (k.2, _, [], (okc, refl), (refl, refl), refl), refl), refl), e ∙ simp append_assoc))
    (lawful-bind (lawful-literal (codes ") (keys ")) (λ _. lawful-bind (lawful-hex 32 space) (λ a. lawful-bind (lawful-hex 32 space) (λ b. lawful-bind (lawful-hex 41 bracket) (λ c. lawful-pure (a, b, c))))))

lawful-name : Lawful NameWord line_name
unfolding line_name
lawful-name =
    lawful-iff (λ n w (_, u₀, v₀, e₀, (m, u₁, v₁, (bs, ok, long, em, e₁), (_, u₂, v₂, e₂, (en, e₃), z₂), z₁), z₀).
    subst (λ x. NameWord x w) (sym (en ∙ em)) (ok, long, z₀ ∙ simp (z₁, z₂, e₀, e₁, e₂, e₃, append_assoc)))
    (λ n w (ok, long, e). (tt, codes " (line ", _, refl, (n, _, _, (n, ok, long, refl, refl), (tt, codes ")", [], refl, (refl, refl), refl), refl), e ∙ simp append_assoc))
    (lawful-bind (lawful-literal (codes " (line ")) (λ _. lawful-bind (lawful-bytes 8 []) (λ n. lawful-bind (lawful-literal (codes ")")) (λ _. lawful-pure n))))

lawful-first : Lawful FirstWord first_number
unfolding first_number
lawful-first =
    lawful-iff (λ n w (_, u₀, v₀, e₀, (m, u₁, v₁, (ds, ok, e₁), (_, u₂, v₂, e₂, (en, e₃), z₂), z₁), z₀).
    (ds, subst (λ x. Writes x ds) (sym en) ok, z₀ ∙ simp (z₁, z₂, e₀, e₁, e₂, e₃, append_assoc)))
    (λ n w (ds, ok, e). (tt, codes " (first ", _, refl, (n, _, _, (ds, ok, refl), (tt, codes ")", [], refl, (refl, refl), refl), refl), e ∙ simp append_assoc))
    (lawful-bind (lawful-literal (codes " (first ")) (λ _. lawful-bind lawful-number (λ n. lawful-bind (lawful-literal (codes ")")) (λ _. lawful-pure n))))

piled-some : (c : ℕ) (p : Pile) → piled c ≡ Some p → c ∷ [] ≡ letter p
piled-some c p =
    cond_both (eqb c 97) (Some A) _ (λ o. o ≡ Some p → c ∷ [] ≡ letter p) (λ t e. let i = eqb-true c 97 t in let s = some_is e in cc) (λ _.
    cond_both (eqb c 98) (Some B) None (λ o. o ≡ Some p → c ∷ [] ≡ letter p) (λ t e. let i = eqb-true c 98 t in let s = some_is e in cc) (λ _ e. none-some e))

lawful-pile : Lawful (λ p w. w ≡ letter p) (one piled)
lawful-pile = lawful-iff (λ p w (c, i, e). e ∙ piled-some c p i) from (lawful-one piled 97 A refl)
  where
    from : (p : Pile) (w : List ℕ) → w ≡ letter p → OneWord piled p w
    from A w e = (97, refl, e)
    from B w e = (98, refl, e)

glue : (o l k a s b c r m n f d z : List ℕ) → o ++ (l ++ ((k ++ a ++ s ++ b ++ s ++ c ++ r) ++ ((m ++ n ++ r) ++ ((f ++ d ++ z) ++ [])))) ≡ o ++ l ++ k ++ a ++ s ++ b ++ s ++ c ++ (r ++ m) ++ n ++ (r ++ f) ++ d ++ z
glue o l k a s b c r m n f d z = simp (append_assoc, append-nil)

ends-joined : (l a b c n d : List ℕ) → codes "(ends (pile " ++ (l ++ ((codes ") (keys " ++ a ++ codes " " ++ b ++ codes " " ++ c ++ codes ")") ++ ((codes " (line " ++ n ++ codes ")") ++ ((codes " (first " ++ d ++ codes "))") ++ [])))) ≡ codes "(ends (pile " ++ l ++ codes ") (keys " ++ a ++ codes " " ++ b ++ codes " " ++ c ++ codes ") (line " ++ n ++ codes ") (first " ++ d ++ codes "))"
ends-joined l a b c n d = glue (codes "(ends (pile ") l (codes ") (keys ") a (codes " ") b c (codes ")") (codes " (line ") n (codes " (first ") d (codes "))")

pub lawful-ends : Lawful Opens ends
unfolding ends
lawful-ends =
    lawful-iff (λ o w (_, u₀, v₀, e₀, (p, u₁, v₁, e₁, (k, u₂, v₂, (oka, okb, okc, e₂), (n, u₃, v₃, (okn, long, e₃), (f, u₄, v₄, (ds, okf, e₄), (eo, e₅), z₄), z₃), z₂), z₁), z₀).
    subst (λ x. Opens x w) (sym eo) (record { hash_key = oka; expander_key = okb; header_key = okc; line = okn; eight = long; digits = ds; first = okf; spelt = z₀ ∙ simp (z₁, z₂, z₃, z₄, e₀, e₁, e₂, e₃, e₄, e₅) (ends-joined (letter p) (hexed k.0) (hexed k.1) (hexed k.2) (pairs n) ds) }))
    (λ o w v. (tt, codes "(ends (pile ", _, refl, (o.pile, letter o.pile, _, refl, ((o.hash_key, o.expander_key, o.header_key), _, _, (v.hash_key, v.expander_key, v.header_key, refl), (o.line, _, _, (v.line, v.eight, refl), (o.first, _, [], (v.digits, v.first, refl), (refl, refl), refl), refl), refl), refl), v.spelt ∙ sym (ends-joined (letter o.pile) (hexed o.hash_key) (hexed o.expander_key) (hexed o.header_key) (pairs o.line) v.digits)))
    (lawful-bind (lawful-literal (codes "(ends (pile ")) (λ _. lawful-bind lawful-pile (λ p. lawful-bind lawful-keys (λ k. lawful-bind lawful-name (λ n. lawful-bind lawful-first (λ f. lawful-pure (opened p k n f)))))))

-- a form that is one word
pub lawful-word : {F : Type 0} (text : List ℕ) (f : F) → Lawful (λ g w. (g ≡ f) × (w ≡ text)) (word text f)
unfolding word
lawful-word text f =
    lawful-iff (λ g w (_, u, v, eu, (eg, ev), e). (eg, e ∙ simp (eu, ev, append-nil))) (λ g w (eg, e). (tt, text, [], refl, (eg, refl), e ∙ sym (append-nil text)))
    (lawful-bind (lawful-literal text) (λ _. lawful-pure f))

-- two byte strings, and what stands before each
abbrev pub StringsWord : List ℕ → List ℕ → List ℕ × List ℕ → List ℕ → Type 0
StringsWord before between p w = Bytes p.0 × Bytes p.1 × (w ≡ before ++ hexed p.0 ++ (codes ")" ++ between) ++ hexed p.1 ++ codes "))")

pub lawful-strings : (before between : List ℕ) → Lawful (StringsWord before between) (strings before between)
unfolding strings
lawful-strings before between =
    lawful-iff (λ p w (_, u₀, v₀, e₀, (a, u₁, v₁, (oka, e₁), (_, u₂, v₂, e₂, (b, u₃, v₃, (okb, e₃), (_, u₄, v₄, e₄, (ep, e₅), z₄), z₃), z₂), z₁), z₀).
    subst (λ x. StringsWord before between x w) (sym ep) (oka, okb, z₀ ∙ simp (z₁, z₂, z₃, z₄, e₀, e₁, e₂, e₃, e₄, e₅, append_assoc)))
    (λ p w (oka, okb, e). (tt, before, _, refl, (p.0, _, _, (oka, refl), (tt, between, _, refl, (p.1, _, _, (okb, refl), (tt, codes ")", [], refl, (refl, refl), refl), refl), refl), refl), e ∙ simp append_assoc))
    (lawful-bind (lawful-literal before) (λ _. lawful-bind (lawful-hex 41 bracket) (λ a. lawful-bind (lawful-literal between) (λ _. lawful-bind (lawful-hex 41 bracket) (λ b. lawful-bind (lawful-literal (codes ")")) (λ _. lawful-pure (a, b)))))))

-- a form of two byte strings
abbrev pub FormWord : {F : Type 0} → List ℕ → List ℕ → (List ℕ → List ℕ → F) → F → List ℕ → Type 0
FormWord before between form f w = (a b : List ℕ) × (f ≡ form a b) × StringsWord before between (a, b) w

pub lawful-of-strings : {F : Type 0} (before between : List ℕ) (form : List ℕ → List ℕ → F) → Lawful (FormWord before between form) (of_strings before between form)
unfolding of_strings
lawful-of-strings before between form =
    lawful-iff (λ f w (p, u, v, (oka, okb, eu), (ef, ev), e). (p.0, p.1, ef, (oka, okb, e ∙ simp (ev, append-nil) eu)))
    (λ f w (a, b, ef, v). ((a, b), w, [], v, (ef, refl), sym (append-nil w)))
    (lawful-bind (lawful-strings before between) (λ p. lawful-pure (form p.0 p.1)))
