-- The laws of docked-double-decker, over any hash and any masking.
use Rattle.std.specs.Prelude.{◌≡◌, ℕ, ◌+◌, ◌-◌, ◌≤◌, ◌⊎◌, List, [], ◌++◌, length, take, drop, refl}
use Rattle.std.proofs.Common.{sym, ap, ◌∙◌, inl, inr, arith}
use Rattle.std.proofs.Math.Nat.{sub-zero}
use borrow.Rule.Slice.PartMut.{put_mid, post_of}
use Rattle.std.proofs.lemmas.List.{append-nil, take_rest, take_all, take_at, drop_at, length-append, length-take, length-take-le, length-drop, take-append-drop, take-append-le, append_assoc}
use Rattle.octets.specs.Strings.{Bytes, xor, xor_at, filled}
use Rattle.octets.proofs.Bytes.{bytes-append, bytes_take, bytes_drop}
use Rattle.octets.proofs.Slices.{put_mid-tail, filled-take}
use Rattle.octets.proofs.Xor.{length-xor, xor-twice, xor-front, bytes-xor}
use Rattle.ciphers.specs.Ddd.{forth, back, enc, dec}

-- the two ways by their steps
pub forth-by : (hash : List ℕ → List ℕ) (mask : ℕ → List ℕ → List ℕ) (t u v l r xy z : List ℕ) → xor t (hash (u ++ v)) ≡ l → xor v (mask 1 l) ≡ r → xor (l ++ u) (mask 2 r) ≡ xy → xor r (hash xy) ≡ z → forth hash mask t u v ≡ xy ++ z
unfolding forth
forth-by hash mask t u v l r xy z e₁ e₂ e₃ e₄ = cc

pub back_by : (hash : List ℕ → List ℕ) (mask : ℕ → List ℕ → List ℕ) (xy z r lu l u v t : List ℕ) → xor z (hash xy) ≡ r → xor xy (mask 2 r) ≡ lu → take 16 lu ≡ l → drop 16 lu ≡ u → xor r (mask 1 l) ≡ v → xor l (hash (u ++ v)) ≡ t → back hash mask xy z ≡ t ++ (u ++ v)
unfolding back
back_by hash mask xy z r lu l u v t e₁ e₂ e₃ e₄ e₅ e₆ = cc

-- a string by its parts
pub cut-end : (a b : List ℕ) (n : ℕ) → length b ≡ n → (take (length (a ++ b) - n) (a ++ b) ≡ a) × (drop (length (a ++ b) - n) (a ++ b) ≡ b)
cut-end a b n h =
    let k : length a ≡ length (a ++ b) - n = simp length-append (omega arith) in (take_at a b _ k, drop_at a b _ k)

pub dec-parts : (hash : List ℕ → List ℕ) (mask : ℕ → List ℕ → List ℕ) (xy z : List ℕ) → length z ≡ 16 → dec hash mask (xy ++ z) ≡ back hash mask xy z
unfolding dec
dec-parts hash mask xy z h = let p = cut-end xy z 16 h in let p₀ = p.0 in let p₁ = p.1 in cc

pub enc-parts : (hash : List ℕ → List ℕ) (mask : ℕ → List ℕ → List ℕ) (t u v : List ℕ) → length t ≡ 16 → length v ≡ 16 → enc hash mask (t ++ (u ++ v)) ≡ forth hash mask t u v
unfolding enc
enc-parts hash mask t u v ht hv =
    let s = t ++ (u ++ v) in
    let n : length s ≡ 16 + (length u + 16) = length-append t (u ++ v) ∙ simp (length-append, ht, hv) in
    let e₁ = take_at t (u ++ v) 16 ht in
    let e₂ = drop_at t (u ++ v) 16 ht in
    let e₃ = take_at u v (length s - 32) (omega arith) in
    let k : length (t ++ u) ≡ length s - 16 = length-append t u ∙ omega arith in
    let e₄ : drop (length s - 16) s ≡ v = ap (drop (length s - 16)) (sym (append_assoc t u v)) ∙ drop_at (t ++ u) v (length s - 16) k in
    cc

-- any string of 32 bytes and more has such parts
pub whole : (s : List ℕ) → 32 ≤ length s → (t : List ℕ) × (u : List ℕ) × (v : List ℕ) × (s ≡ t ++ (u ++ v)) × (length t ≡ 16) × (length v ≡ 16)
whole s h =
    (take 16 s, take (length s - 32) (drop 16 s), drop (length s - 32) (drop 16 s), sym (ap (λ (x : List ℕ). take 16 s ++ x) (take-append-drop (length s - 32) (drop 16 s)) ∙ take-append-drop 16 s), simp length-take (omega arith), simp (length-drop) (omega arith))

-- L, R, X Y and Z have the lengths of T, V, L U and R
pub length-forth : (hash : List ℕ → List ℕ) (mask : ℕ → List ℕ → List ℕ) (t u v : List ℕ) → length (forth hash mask t u v) ≡ length t + (length u + length v)
unfolding forth
length-forth hash mask t u v = simp (length-append, length-xor) (omega arith)

pub length_back : (hash : List ℕ → List ℕ) (mask : ℕ → List ℕ → List ℕ) (xy z : List ℕ) → length (back hash mask xy z) ≡ length xy + length z
unfolding back
length_back hash mask xy z = simp (length-append, length-xor, length-take, length-drop) (omega arith)

pub back-forth : (hash : List ℕ → List ℕ) (mask : ℕ → List ℕ → List ℕ) (t u v : List ℕ) → length t ≡ 16 → length v ≡ 16 → dec hash mask (forth hash mask t u v) ≡ t ++ (u ++ v)
back-forth hash mask t u v ht hv =
    let l = xor t (hash (u ++ v)) in
    let r = xor v (mask 1 l) in
    let xy = xor (l ++ u) (mask 2 r) in
    let z = xor r (hash xy) in
    let hl : length l ≡ 16 = length-xor t (hash (u ++ v)) ∙ ht in
    let hz : length z ≡ 16 = length-xor r (hash xy) ∙ length-xor v (mask 1 l) ∙ hv in
    ap (dec hash mask) (forth-by hash mask t u v l r xy z refl refl refl refl)
    ∙ dec-parts hash mask xy z hz
    ∙ back_by hash mask xy z r (l ++ u) l u v t (xor-twice r (hash xy)) (xor-twice (l ++ u) (mask 2 r)) (take_at l u 16 hl) (drop_at l u 16 hl) (xor-twice v (mask 1 l)) (xor-twice t (hash (u ++ v)))

pub forth-back : (hash : List ℕ → List ℕ) (mask : ℕ → List ℕ → List ℕ) (xy z : List ℕ) → 16 ≤ length xy → length z ≡ 16 → enc hash mask (back hash mask xy z) ≡ xy ++ z
forth-back hash mask xy z hxy hz =
    let r = xor z (hash xy) in
    let lu = xor xy (mask 2 r) in
    let l = take 16 lu in
    let u = drop 16 lu in
    let v = xor r (mask 1 l) in
    let t = xor l (hash (u ++ v)) in
    let nlu = length-xor xy (mask 2 r) in
    let hl : length l ≡ 16 = length-take-le 16 lu (omega arith) in
    let ht : length t ≡ 16 = length-xor l (hash (u ++ v)) ∙ hl in
    let hv : length v ≡ 16 = length-xor r (mask 1 l) ∙ length-xor z (hash xy) ∙ hz in
    ap (enc hash mask) (back_by hash mask xy z r lu l u v t refl refl refl refl refl refl)
    ∙ enc-parts hash mask t u v ht hv
    ∙ forth-by hash mask t u v l r xy z (xor-twice l (hash (u ++ v))) (xor-twice r (mask 1 l)) (ap (λ (x : List ℕ). xor x (mask 2 r)) (take-append-drop 16 lu) ∙ xor-twice xy (mask 2 r)) (xor-twice z (hash xy))

-- each undoes the other
pub dec-enc : (hash : List ℕ → List ℕ) (mask : ℕ → List ℕ → List ℕ) (s : List ℕ) → 32 ≤ length s → dec hash mask (enc hash mask s) ≡ s
dec-enc hash mask s h =
    let p = whole s h in
    rw p.3 (ap (dec hash mask) (enc-parts hash mask p.0 p.1 p.2 p.4 p.5) ∙ back-forth hash mask p.0 p.1 p.2 p.4 p.5)

pub ends : (s : List ℕ) → 16 ≤ length s → (a : List ℕ) × (b : List ℕ) × (s ≡ a ++ b) × (length b ≡ 16)
ends s h = (take (length s - 16) s, drop (length s - 16) s, sym (take-append-drop (length s - 16) s), simp length-drop (omega arith))

pub enc-dec : (hash : List ℕ → List ℕ) (mask : ℕ → List ℕ → List ℕ) (s : List ℕ) → 32 ≤ length s → enc hash mask (dec hash mask s) ≡ s
enc-dec hash mask s h =
    let p = ends s (omega arith) in
    let n = length-append p.0 p.1 in
    let m = ap length p.2 in
    rw p.2 (ap (enc hash mask) (dec-parts hash mask p.0 p.1 p.3) ∙ forth-back hash mask p.0 p.1 (omega arith) p.3)

pub length-enc : (hash : List ℕ → List ℕ) (mask : ℕ → List ℕ → List ℕ) (s : List ℕ) → 32 ≤ length s → length (enc hash mask s) ≡ length s
length-enc hash mask s h =
    let p = whole s h in
    rw p.3 (ap length (enc-parts hash mask p.0 p.1 p.2 p.4 p.5) ∙ length-forth hash mask p.0 p.1 p.2 ∙ simp length-append)

pub length-dec : (hash : List ℕ → List ℕ) (mask : ℕ → List ℕ → List ℕ) (s : List ℕ) → 32 ≤ length s → length (dec hash mask s) ≡ length s
length-dec hash mask s h =
    let p = ends s (omega arith) in
    rw p.2 (ap length (dec-parts hash mask p.0 p.1 p.3) ∙ length_back hash mask p.0 p.1 ∙ simp length-append)

-- bytes stay bytes
abbrev pub Hashes : (List ℕ → List ℕ) → Type 0
Hashes hash = (s : List ℕ) → Bytes s → Bytes (hash s)

abbrev pub Masks : (ℕ → List ℕ → List ℕ) → Type 0
Masks mask = (d : ℕ) (i : List ℕ) → (d ≡ 1) ⊎ (d ≡ 2) → length i ≡ 16 → Bytes i → Bytes (mask d i)

pub bytes-enc : (hash : List ℕ → List ℕ) (mask : ℕ → List ℕ → List ℕ) → Hashes hash → Masks mask → (s : List ℕ) → 32 ≤ length s → Bytes s → Bytes (enc hash mask s)
unfolding enc forth
bytes-enc hash mask bh bm s n b =
    let t = take 16 s in
    let u = take (length s - 32) (drop 16 s) in
    let v = drop (length s - 16) s in
    let l = xor t (hash (u ++ v)) in
    let r = xor v (mask 1 l) in
    let xy = xor (l ++ u) (mask 2 r) in
    let nl : length l ≡ 16 = length-xor t (hash (u ++ v)) ∙ length-take-le 16 s (omega arith) in
    let nr : length r ≡ 16 = length-xor v (mask 1 l) ∙ length-drop (length s - 16) s ∙ omega arith in
    let bt : Bytes t = bytes_take 16 s b in
    let bu : Bytes u = bytes_take (length s - 32) (drop 16 s) (bytes_drop 16 s b) in
    let bv : Bytes v = bytes_drop (length s - 16) s b in
    let bl : Bytes l = bytes-xor t (hash (u ++ v)) bt (bh (u ++ v) (bytes-append u v bu bv)) in
    let br : Bytes r = bytes-xor v (mask 1 l) bv (bm 1 l (inl refl) nl bl) in
    let bxy : Bytes xy = bytes-xor (l ++ u) (mask 2 r) (bytes-append l u bl bu) (bm 2 r (inr refl) nr br) in
    bytes-append xy (xor r (hash xy)) bxy (bytes-xor r (hash xy) br (bh xy bxy))

pub bytes-dec : (hash : List ℕ → List ℕ) (mask : ℕ → List ℕ → List ℕ) → Hashes hash → Masks mask → (s : List ℕ) → 32 ≤ length s → Bytes s → Bytes (dec hash mask s)
unfolding dec back
bytes-dec hash mask bh bm s n b =
    let xy = take (length s - 16) s in
    let z = drop (length s - 16) s in
    let r = xor z (hash xy) in
    let lu = xor xy (mask 2 r) in
    let l = take 16 lu in
    let u = drop 16 lu in
    let v = xor r (mask 1 l) in
    let nr : length r ≡ 16 = length-xor z (hash xy) ∙ length-drop (length s - 16) s ∙ omega arith in
    let nlu : length lu ≡ length s - 16 = length-xor xy (mask 2 r) ∙ length-take-le (length s - 16) s (omega arith) in
    let nl : length l ≡ 16 = length-take-le 16 lu (omega arith) in
    let bxy : Bytes xy = bytes_take (length s - 16) s b in
    let bz : Bytes z = bytes_drop (length s - 16) s b in
    let br : Bytes r = bytes-xor z (hash xy) bz (bh xy bxy) in
    let blu : Bytes lu = bytes-xor xy (mask 2 r) bxy (bm 2 r (inr refl) nr br) in
    let bl : Bytes l = bytes_take 16 lu blu in
    let bu : Bytes u = bytes_drop 16 lu blu in
    let bv : Bytes v = bytes-xor r (mask 1 l) br (bm 1 l (inl refl) nl bl) in
    let buv : Bytes (u ++ v) = bytes-append u v bu bv in
    bytes-append (xor l (hash (u ++ v))) (u ++ v) (bytes-xor l (hash (u ++ v)) bl (bh (u ++ v) buv)) buv

-- a string that is known to be two parts, cut between them
pub parted : (s a b : List ℕ) (n : ℕ) → s ≡ a ++ b → length a ≡ n → (take n s ≡ a) × (drop n s ≡ b)
parted s a b n e h = (ap (take n) e ∙ take_at a b n h, ap (drop n) e ∙ drop_at a b n h)

-- the steps of the code in place: `end` is where the last 16 bytes begin
pub enc-steps : (hash : List ℕ → List ℕ) (mask : ℕ → List ℕ → List ℕ) (s h s₁ l s₂ r s₃ k s₄ : List ℕ) (end : ℕ) → 32 ≤ length s → end ≡ length s - 16 → h ≡ hash (drop 16 s) → length h ≡ 16 → s₁ ≡ xor s h → l ≡ take 16 s₁ → s₂ ≡ take end s₁ ++ xor (drop end s₁) (mask 1 l) → r ≡ drop end s₂ → s₃ ≡ xor (take end s₂) (mask 2 r) ++ drop end s₂ → k ≡ hash (take end s₃) → s₄ ≡ take end s₃ ++ xor (drop end s₃) k → s₄ ≡ enc hash mask s
enc-steps hash mask s h s₁ l s₂ r s₃ k s₄ end n en eh nh e₁ el e₂ er e₃ ek e₄ =
    let p = whole s n in
    let t = p.0 in
    let u = p.1 in
    let v = p.2 in
    let es : s ≡ t ++ (u ++ v) = p.3 in
    let ht : length t ≡ 16 = p.4 in
    let hv : length v ≡ 16 = p.5 in
    let L = xor t h in
    let hL : length L ≡ 16 = length-xor t h ∙ ht in
    let a₀ = (parted s t (u ++ v) 16 es ht).1 in
    let a₁ : s₁ ≡ L ++ (u ++ v) = e₁ ∙ ap (λ (x : List ℕ). xor x h) es ∙ xor-front t (u ++ v) h (omega arith) in
    let b = (parted s₁ L (u ++ v) 16 a₁ hL).0 in
    let b₁ : s₁ ≡ (L ++ u) ++ v = a₁ ∙ sym (append_assoc L u v) in
    let ns : length s ≡ length t + (length u + length v) = ap length es ∙ simp length-append in
    let hLu : length (L ++ u) ≡ end = length-append L u ∙ omega arith in
    let c₁ = parted s₁ (L ++ u) v end b₁ hLu in
    let c₁₀ = c₁.0 in
    let c₁₁ = c₁.1 in
    let R = xor v (mask 1 L) in
    let a₂ : s₂ ≡ (L ++ u) ++ R = cc in
    let c₂ = parted s₂ (L ++ u) R end a₂ hLu in
    let c₂₀ = c₂.0 in
    let c₂₁ = c₂.1 in
    let XY = xor (L ++ u) (mask 2 R) in
    let hXY : length XY ≡ end = length-xor (L ++ u) (mask 2 R) ∙ hLu in
    let a₃ : s₃ ≡ XY ++ R = cc in
    let c₃ = parted s₃ XY R end a₃ hXY in
    let c₃₀ = c₃.0 in
    let c₃₁ = c₃.1 in
    let a₄ : s₄ ≡ XY ++ xor R (hash XY) = cc in
    let f = forth-by hash mask t u v L R XY (xor R (hash XY)) (cc) refl refl refl in
    let g = enc-parts hash mask t u v ht hv in
    cc

pub dec-steps : (hash : List ℕ → List ℕ) (mask : ℕ → List ℕ → List ℕ) (s k s₁ r s₂ l s₃ h s₄ : List ℕ) (end : ℕ) → 32 ≤ length s → end ≡ length s - 16 → k ≡ hash (take end s) → s₁ ≡ take end s ++ xor (drop end s) k → r ≡ drop end s₁ → s₂ ≡ xor (take end s₁) (mask 2 r) ++ drop end s₁ → l ≡ take 16 s₂ → s₃ ≡ take end s₂ ++ xor (drop end s₂) (mask 1 l) → h ≡ hash (drop 16 s₃) → length h ≡ 16 → s₄ ≡ xor s₃ h → s₄ ≡ dec hash mask s
dec-steps hash mask s k s₁ r s₂ l s₃ h s₄ end n en ek e₁ er e₂ el e₃ eh nh e₄ =
    let p = ends s (omega arith) in
    let XY = p.0 in
    let Z = p.1 in
    let es : s ≡ XY ++ Z = p.2 in
    let hZ : length Z ≡ 16 = p.3 in
    let ns : length s ≡ length XY + length Z = ap length es ∙ length-append XY Z in
    let hXY : length XY ≡ end = omega arith in
    let c₀ = parted s XY Z end es hXY in
    let c₀₀ = c₀.0 in
    let c₀₁ = c₀.1 in
    let R = xor Z (hash XY) in
    let a₁ : s₁ ≡ XY ++ R = cc in
    let c₁ = parted s₁ XY R end a₁ hXY in
    let c₁₀ = c₁.0 in
    let c₁₁ = c₁.1 in
    let LU = xor XY (mask 2 R) in
    let hLU : length LU ≡ end = length-xor XY (mask 2 R) ∙ hXY in
    let a₂ : s₂ ≡ LU ++ R = cc in
    let c₂ = parted s₂ LU R end a₂ hLU in
    let c₂₀ = c₂.0 in
    let c₂₁ = c₂.1 in
    let L = take 16 LU in
    let U = drop 16 LU in
    let nLU : 16 ≤ length LU = omega arith in
    let hL : length L ≡ 16 = length-take-le 16 LU nLU in
    let d₂ : take 16 s₂ ≡ L = ap (take 16) a₂ ∙ take-append-le 16 LU R nLU in
    let V = xor R (mask 1 L) in
    let a₃ : s₃ ≡ LU ++ V = cc in
    let b₃ : s₃ ≡ L ++ (U ++ V) = a₃ ∙ ap (λ (x : List ℕ). x ++ V) (sym (take-append-drop 16 LU)) ∙ append_assoc L U V in
    let c₃ = (parted s₃ L (U ++ V) 16 b₃ hL).1 in
    let a₄ : s₄ ≡ xor L h ++ (U ++ V) = e₄ ∙ ap (λ (x : List ℕ). xor x h) b₃ ∙ xor-front L (U ++ V) h (omega arith) in
    let f = back_by hash mask XY Z R LU L U V (xor L h) refl refl refl refl refl (cc) in
    let g = dec-parts hash mask XY Z hZ in
    cc

last_block : (s : List ℕ) (end : ℕ) → end + 16 ≡ length s → filled 16 (drop end s) ≡ drop end s
last_block s end h =
    let n : length (drop end s) ≡ 16 = length-drop end s ∙ omega arith in
    filled-take 16 (drop end s) (omega arith) ∙ take_all 16 (drop end s) (omega arith)

-- the same with each step as the code leaves it
pub enc-code : (hash : List ℕ → List ℕ) (mask : ℕ → List ℕ → List ℕ) (s h s₁ l p s₂ r q s₃ k s₄ : List ℕ) (end : ℕ) → 32 ≤ length s → end ≡ length s - 16 → h ≡ hash (take (length s - 16) (drop 16 s) ++ []) → length h ≡ 16 → s₁ ≡ xor s h → l ≡ filled 16 s₁ → p ≡ xor (take (length s₁ - end) (drop end s₁)) (mask 1 l) → s₂ ≡ put_mid end (length s₁ - end) s₁ p → r ≡ filled 16 (take (length s₂ - end) (drop end s₂)) → q ≡ xor (take (end - 0) (drop 0 s₂)) (mask 2 r) → s₃ ≡ q ++ post_of 0 (end - 0) s₂ → k ≡ hash (take (end - 0) (drop 0 s₃) ++ []) → s₄ ≡ xor_at end s₃ k → s₄ ≡ enc hash mask s
unfolding xor_at
enc-code hash mask s h s₁ l p s₂ r q s₃ k s₄ end n en eh nh e₁ el ep e₂ er eq e₃ ek e₄ =
    let z = sub-zero end in
    let n₁ : length s₁ ≡ length s = ap length e₁ ∙ length-xor s h in
    let fl : l ≡ take 16 s₁ = el ∙ filled-take 16 s₁ (omega arith) in
    let f₂ : s₂ ≡ take end s₁ ++ xor (drop end s₁) (mask 1 l) = e₂ ∙ put_mid-tail end s₁ p ∙ ap (λ (x : List ℕ). take end s₁ ++ x) (ep ∙ ap (λ (x : List ℕ). xor x (mask 1 l)) (take_rest s₁ end)) in
    let n₂ : length s₂ ≡ length s = ap length f₂ ∙ simp (length-append, length-take, length-xor, length-drop) (omega arith) in
    let fr : r ≡ drop end s₂ = er ∙ ap (filled 16) (take_rest s₂ end) ∙ last_block s₂ end (omega arith) in
    let f₃ : s₃ ≡ xor (take end s₂) (mask 2 r) ++ drop end s₂ = rw z at (e₃ ∙ ap (λ (x : List ℕ). x ++ post_of 0 (end - 0) s₂) eq) in
    let fk : k ≡ hash (take end s₃) = rw z at (ek ∙ ap hash (append-nil (take (end - 0) s₃))) in
    enc-steps hash mask s h s₁ l s₂ r s₃ k s₄ end n en (eh ∙ ap hash (append-nil (take (length s - 16) (drop 16 s)) ∙ take_rest s 16)) nh e₁ fl f₂ fr f₃ fk e₄

pub dec-code : (hash : List ℕ → List ℕ) (mask : ℕ → List ℕ → List ℕ) (s k s₁ r q s₂ l p s₃ h s₄ : List ℕ) (end : ℕ) → 32 ≤ length s → end ≡ length s - 16 → k ≡ hash (take (end - 0) (drop 0 s) ++ []) → s₁ ≡ xor_at end s k → r ≡ filled 16 (take (length s₁ - end) (drop end s₁)) → q ≡ xor (take (end - 0) (drop 0 s₁)) (mask 2 r) → s₂ ≡ q ++ post_of 0 (end - 0) s₁ → l ≡ filled 16 s₂ → p ≡ xor (take (length s₂ - end) (drop end s₂)) (mask 1 l) → s₃ ≡ put_mid end (length s₂ - end) s₂ p → h ≡ hash (take (length s₃ - 16) (drop 16 s₃) ++ []) → length h ≡ 16 → s₄ ≡ xor s₃ h → s₄ ≡ dec hash mask s
unfolding xor_at
dec-code hash mask s k s₁ r q s₂ l p s₃ h s₄ end n en ek e₁ er eq e₂ el ep e₃ eh nh e₄ =
    let z = sub-zero end in
    let fk : k ≡ hash (take end s) = rw z at (ek ∙ ap hash (append-nil (take (end - 0) s))) in
    let n₁ : length s₁ ≡ length s = ap length e₁ ∙ simp (length-append, length-take, length-xor, length-drop) (omega arith) in
    let fr : r ≡ drop end s₁ = er ∙ ap (filled 16) (take_rest s₁ end) ∙ last_block s₁ end (omega arith) in
    let f₂ : s₂ ≡ xor (take end s₁) (mask 2 r) ++ drop end s₁ = rw z at (e₂ ∙ ap (λ (x : List ℕ). x ++ post_of 0 (end - 0) s₁) eq) in
    let n₂ : length s₂ ≡ length s = ap length f₂ ∙ simp (length-append, length-take, length-xor, length-drop) (omega arith) in
    let fl : l ≡ take 16 s₂ = el ∙ filled-take 16 s₂ (omega arith) in
    let f₃ : s₃ ≡ take end s₂ ++ xor (drop end s₂) (mask 1 l) = e₃ ∙ put_mid-tail end s₂ p ∙ ap (λ (x : List ℕ). take end s₂ ++ x) (ep ∙ ap (λ (x : List ℕ). xor x (mask 1 l)) (take_rest s₂ end)) in
    dec-steps hash mask s k s₁ r s₂ l s₃ h s₄ end n en fk e₁ fr f₂ fl f₃ (eh ∙ ap hash (append-nil (take (length s₃ - 16) (drop 16 s₃)) ∙ take_rest s₃ 16)) nh e₄
