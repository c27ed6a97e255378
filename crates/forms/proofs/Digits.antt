-- Digits and the numbers that they stand for, byte strings and their spelling.
use Rattle.std.proofs.Common.{◌≡◌, ℕ, zero, suc, ◌+◌, ◌-◌, ◌*◌, ◌/◌, ◌%◌, ◌<◌, ◌≤◌, true, ltb, leb, List, [], ◌∷◌, ◌++◌, length, get_or, take, drop, set, Some, None, Ok, Option, unwrap_or, sym, refl, ap, ◌∙◌, ⊎_elim, append_assoc, arith}
use Rattle.std.proofs.lemmas.List.{drop_more, take_more, take_all, set_at, length-take-le}
use Rattle.std.proofs.lemmas.Bool.{cases_lt, cond_both, cond-true, cond-false, ltb-true, ltb-false, lt-ltb, le-ltb, le-leb}
use Rattle.octets.specs.Strings.{Bytes}
use Rattle.std.specs.Simd.{first_chunks}
use Rattle.forms.specs.Decoding.{decoded, placed}
use Rattle.forms.specs.Hex.{digit, pairs, hexed, worth, unhexed, nibbled}
use Rattle.forms.specs.Scans.{tenth}

pub some_is : {X : Type 0} {x y : X} → ◌≡◌ {A = Option X} (Some x) (Some y) → x ≡ y
some_is e = cc

pub none-some : {X C : Type 0} {x : X} → ◌≡◌ {A = Option X} None (Some x) → C
none-some e = absurd (let z : ◌≡◌ {A = ℕ} 0 1 = cc in omega arith)

digit-few : (d : ℕ) → d < 10 → digit d ≡ 48 + d
digit-few d h = cond-true (ltb d 10) (48 + d) (87 + d) (lt-ltb d 10 h)

digit-many : (d : ℕ) → 10 ≤ d → digit d ≡ 87 + d
digit-many d h = cond-false (ltb d 10) (48 + d) (87 + d) (le-ltb d 10 h)

pub digit-high : (d : ℕ) → 48 ≤ digit d
digit-high d = cond_both (ltb d 10) (48 + d) (87 + d) (λ x. 48 ≤ x) (λ e. omega arith) (λ e. omega arith)

pub nibbled-some : (c d : ℕ) → nibbled c ≡ Some d → (d < 16) × (c ≡ digit d)
nibbled-some c d =
    let P : Option ℕ → Type 0 = λ o. o ≡ Some d → (d < 16) × (c ≡ digit d) in
    cond_both (ltb c 48) None _ P (λ _ e. none-some e) (λ f.
    cond_both (ltb c 58) (Some (c - 48)) _ P (λ t e. let s = some_is e in let i = ltb-true c 58 t in let k = ltb-false c 48 f in (omega arith, (let m : c ≡ 48 + d = omega arith in m) ∙ sym (digit-few d (omega arith)))) (λ g.
    cond_both (ltb c 97) None _ P (λ _ e. none-some e) (λ h.
    cond_both (ltb c 103) (Some (c - 87)) None P (λ t e. let s = some_is e in let i = ltb-true c 103 t in let k = ltb-false c 97 h in (omega arith, (let m : c ≡ 87 + d = omega arith in m) ∙ sym (digit-many d (omega arith)))) (λ _ e. none-some e))))

nibbled-few : (c d : ℕ) → c ≡ 48 + d → d < 10 → nibbled c ≡ Some d
nibbled-few c d e k = let same : c - 48 ≡ d = omega arith in rw (le-ltb c 48 (omega arith), lt-ltb c 58 (omega arith)) (ap Some same)

nibbled-many : (c d : ℕ) → c ≡ 87 + d → 10 ≤ d → d < 16 → nibbled c ≡ Some d
nibbled-many c d e k h = let same : c - 87 ≡ d = omega arith in rw (le-ltb c 48 (omega arith), le-ltb c 58 (omega arith), le-ltb c 97 (omega arith), lt-ltb c 103 (omega arith)) (ap Some same)

pub nibbled-digit : (d : ℕ) → d < 16 → nibbled (digit d) ≡ Some d
nibbled-digit d h = ⊎_elim (λ k. nibbled-few (digit d) d (digit-few d k) k) (λ k. nibbled-many (digit d) d (digit-many d k) k h) (cases_lt d 10)

pub tenth-some : (c d : ℕ) → tenth c ≡ Some d → (48 ≤ c) × (c ≤ 57) × (d ≡ c - 48)
tenth-some c d =
    let P : Option ℕ → Type 0 = λ o. o ≡ Some d → (48 ≤ c) × (c ≤ 57) × (d ≡ c - 48) in
    cond_both (ltb c 48) None _ P (λ _ e. none-some e) (λ f.
    cond_both (ltb c 58) (Some (c - 48)) None P (λ t e. let s = some_is e in let i = ltb-true c 58 t in let k = ltb-false c 48 f in (omega arith, omega arith, omega arith)) (λ _ e. none-some e))

pub tenth-digit : (c : ℕ) → 48 ≤ c → c ≤ 57 → tenth c ≡ Some (c - 48)
tenth-digit c h k = rw (le-ltb c 48 h, lt-ltb c 58 (omega arith)) refl

-- a byte that is no digit is not the digit of a number
pub no_digit : (close d : ℕ) → nibbled close ≡ None → d < 16 → digit d ≡ close → ⊥
no_digit close d e h f = none-some (sym e ∙ ap nibbled (sym f) ∙ nibbled-digit d h)

pub bytes-head : (b : ℕ) (bs : List ℕ) → Bytes (b ∷ bs) → b < 256
bytes-head b bs h = h 0

pub bytes-tail : (b : ℕ) (bs : List ℕ) → Bytes (b ∷ bs) → Bytes bs
bytes-tail b bs h = λ k. h (suc k)

pub bytes-cons : (b : ℕ) (bs : List ℕ) → b < 256 → Bytes bs → Bytes (b ∷ bs)
bytes-cons b bs s h zero = s
bytes-cons b bs s h (suc k) = h k

pub bytes-none : Bytes []
bytes-none k = omega arith

pub high-low : (h l : ℕ) → l < 16 → ((h * 16 + l) / 16 ≡ h) × ((h * 16 + l) % 16 ≡ l)
high-low h l s = (omega arith, omega arith)

-- a spelling stands for what it spells
unhexed-pairs : (bs : List ℕ) → Bytes bs → unhexed (pairs bs) ≡ bs
unfolding unhexed pairs
unhexed-pairs [] ok = refl
unhexed-pairs (b ∷ bs) ok =
    let small = bytes-head b bs ok in
    let high : worth (digit (b / 16)) ≡ b / 16 = ap (λ o. unwrap_or o 0) (nibbled-digit (b / 16) (omega arith)) in
    let low : worth (digit (b % 16)) ≡ b % 16 = ap (λ o. unwrap_or o 0) (nibbled-digit (b % 16) (omega arith)) in
    let whole : worth (digit (b / 16)) * 16 + worth (digit (b % 16)) ≡ b = omega arith in
    ap (λ n. n ∷ unhexed (pairs bs)) whole ∙ ap (λ (l : List ℕ). b ∷ l) (unhexed-pairs bs (bytes-tail b bs ok))

pub unhexed-hexed : (bs : List ℕ) → Bytes bs → unhexed (hexed bs) ≡ bs
unfolding unhexed hexed
unhexed-hexed [] ok = refl
unhexed-hexed (b ∷ bs) ok = unhexed-pairs (b ∷ bs) ok

pub length-unhexed : (ds : List ℕ) → length (unhexed ds) ≡ length ds / 2
unfolding unhexed
length-unhexed [] = refl
length-unhexed (c ∷ []) = refl
length-unhexed (h ∷ l ∷ ds) = let e = length-unhexed ds in omega arith

-- the byte at i is that of the pair at i
pub unhexed-at : (ds : List ℕ) (i n : ℕ) → i < n → n ≤ length ds / 2 → let pair = get_or (first_chunks 2 n ds) i [] in worth (get_or pair 0 0) * 16 + worth (get_or pair 1 0) ≡ get_or (unhexed ds) i 0
unfolding unhexed
unhexed-at ds i zero h k = absurd (omega arith)
unhexed-at [] i (suc n) h k = absurd (omega arith)
unhexed-at (c ∷ []) i (suc n) h k = absurd (omega arith)
unhexed-at (h ∷ l ∷ ds) zero (suc n) lt k = refl
unhexed-at (h ∷ l ∷ ds) (suc i) (suc n) lt k = unhexed-at ds i n (omega arith) (omega arith)

-- one more byte at the front of an area
pub front-more : (bs area : List ℕ) (i b : ℕ) → i < length bs → length bs ≤ length area → b ≡ get_or bs i 0 → set (take i bs ++ drop i area) i b ≡ take (i + 1) bs ++ drop (i + 1) area
front-more bs area i b h k e =
    ap (λ (l : List ℕ). set (take i bs ++ l) i b) (drop_more area i 0 (omega arith)) ∙ set_at (take i bs) (get_or area i 0) (drop (i + 1) area) b i (length-take-le i bs (omega arith))
    ∙ ap (λ n. take i bs ++ n ∷ drop (i + 1) area) e ∙ sym (append_assoc (take i bs) (get_or bs i 0 ∷ []) (drop (i + 1) area)) ∙ ap (λ (l : List ℕ). l ++ drop (i + 1) area) (sym (take_more bs i 0 h))

pub front-all : (bs area filled : List ℕ) (i n : ℕ) → n ≡ length bs → i ≡ n → n ≤ length area → filled ≡ take i bs ++ drop i area → (Ok n ≡ decoded bs (length area)) × (filled ≡ placed bs area)
front-all bs area filled i n long at fits e =
    let fit : leb (length bs) (length area) ≡ true = le-leb (length bs) (length area) (omega arith) in
    let all : i ≡ length bs = at ∙ long in
    (ap Ok long ∙ sym (cond-true (leb (length bs) (length area)) _ _ fit), e ∙ ap (λ k. take k bs ++ drop k area) all ∙ ap (λ (l : List ℕ). l ++ drop (length bs) area) (take_all (length bs) bs (omega arith)) ∙ sym (cond-true (leb (length bs) (length area)) _ _ fit))
