-- Sequences that are made block by block: their lengths and bytes, and a stretch of one added piece by piece.
use Rattle.std.specs.Prelude.{◌≡◌, ℕ, zero, suc, ◌+◌, ◌-◌, ◌*◌, ◌<◌, ◌≤◌, List, [], ◌∷◌, ◌++◌, length, take, drop, bit_xor, refl}
use Rattle.std.proofs.Common.{sym, ap, ◌∙◌, take-add, add-zero, mul-suc, mul-zero, arith}
use Rattle.std.proofs.Math.Nat.{lt_of_mul-lt-mul_left}
use Rattle.octets.proofs.Bytes.{bytes-append, bytes-zeros}
use Rattle.octets.specs.Strings.{Bytes, xor, xor_at}
use Rattle.std.proofs.lemmas.List.{take_at, drop_at, drop-drop, drop-append-le, length-append, length-drop, length-take-le, take_rest}
use Rattle.expanders.specs.Sequences.{blocks}

pub length-blocks : (N : ℕ) (f : ℕ → List ℕ) (i n : ℕ) → ((k : ℕ) → length (f k) ≡ N) → length (blocks f i n) ≡ N * n
unfolding blocks
length-blocks N f i zero h = sym (mul-zero N)
length-blocks N f i (suc n) h =
    let a = length-append (f i) (blocks f (suc i) n) in
    let b = h i in
    let r = length-blocks N f (suc i) n h in
    omega (arith, mul-suc N n)

pub bytes-blocks : (f : ℕ → List ℕ) (i n : ℕ) → ((k : ℕ) → Bytes (f k)) → Bytes (blocks f i n)
unfolding blocks
bytes-blocks f i zero h = bytes-zeros 0
bytes-blocks f i (suc n) h = bytes-append (f i) (blocks f (suc i) n) (h i) (bytes-blocks f (suc i) n h)

-- the block j and what follows it
from_block : (N : ℕ) (f : ℕ → List ℕ) (i n j : ℕ) → ((k : ℕ) → length (f k) ≡ N) → j < n → (rest : List ℕ) × (drop (N * j) (blocks f i n) ≡ f (i + j) ++ rest)
unfolding blocks
from_block N f i zero j h l = absurd (omega arith)
from_block N f i (suc n) zero h l =
    (blocks f (suc i) n, ap (λ (m : ℕ). drop m (f i ++ blocks f (suc i) n)) (mul-zero N) ∙ ap (λ (k : ℕ). f k ++ blocks f (suc i) n) (sym (add-zero i)))
from_block N f i (suc n) (suc j) h l =
    let p = from_block N f (suc i) n j h (omega arith) in
    let e : N * suc j ≡ N + N * j = omega (arith, mul-suc N j) in
    let k : suc i + j ≡ i + suc j = omega arith in
    (p.0, ap (λ (m : ℕ). drop m (f i ++ blocks f (suc i) n)) e ∙ sym (drop-drop (N * j) N (f i ++ blocks f (suc i) n)) ∙ ap (drop (N * j)) (drop_at (f i) (blocks f (suc i) n) N (h i)) ∙ p.1 ∙ ap (λ (m : ℕ). f m ++ p.0) k)

-- a block from its byte `skip` on, as a part of the array b that holds it
pub rest-of-block : (N skip : ℕ) (b block : List ℕ) → b ≡ block → length block ≡ N → take (N - skip) (drop skip b) ≡ drop skip block
rest-of-block N skip b block e n = rw (e, ← n) (take_rest block skip)

-- a string added in two parts, one after the other
xor-join : (a f g : List ℕ) → length f ≤ length a → xor a (f ++ g) ≡ take (length f) (xor a f) ++ xor (drop (length f) (xor a f)) g
unfolding xor
xor-join [] [] g h = refl
xor-join (x ∷ a) [] g h = refl
xor-join [] (y ∷ f) g h = absurd (omega arith)
xor-join (x ∷ a) (y ∷ f) g h = ap (λ (t : List ℕ). bit_xor x y ∷ t) (xor-join a f g (omega arith))

-- one more piece: S is what stands after `at` bytes of `key` were added to s, and the next m bytes are g
xor-piece : (s key S g : List ℕ) (at m : ℕ) → S ≡ xor s (take at key) → at ≤ length s → at ≤ length key → take m (drop at key) ≡ g → xor_at at S g ≡ xor s (take (at + m) key)
unfolding xor_at
xor-piece s key S g at m e h k p =
    let n : length (take at key) ≡ at = length-take-le at key k in
    let j = rw n at (xor-join s (take at key) (take m (drop at key)) (omega arith)) in
    let t : take (at + m) key ≡ take at key ++ take m (drop at key) = take-add at m key in
    cc

module _ (N : ℕ) (f : ℕ → List ℕ) (long : (k : ℕ) → length (f k) ≡ N) (n base at j skip : ℕ) (inside : skip < N) (place : N * j + skip ≡ base + at) where
  -- from a place to the end of its block
  piece : base + at < N * n → take (N - skip) (drop at (drop base (blocks f 0 n))) ≡ drop skip (f j)
  piece l =
      let B = blocks f 0 n in
      let under : N * j < N * n = omega arith in
      let p = from_block N f 0 n j long (lt_of_mul-lt-mul_left N under) in
      let z : 0 + j ≡ j = omega arith in
      let e : drop at (drop base B) ≡ drop skip (f j) ++ p.0 = drop-drop at base B ∙ ap (λ (m : ℕ). drop m B) (sym place) ∙ sym (drop-drop skip (N * j) B) ∙ ap (drop skip) (p.1 ∙ ap (λ (m : ℕ). f m ++ p.0) z) ∙ drop-append-le skip (f j) p.0 (omega (arith, long j)) in
      ap (take (N - skip)) e ∙ take_at (drop skip (f j)) p.0 (N - skip) (length-drop skip (f j) ∙ omega (arith, long j))

  -- one more block of a stretch s that is added block by block
  pub piece-more : (s S : List ℕ) → at < length s → base + length s ≤ N * n → S ≡ xor s (take at (drop base (blocks f 0 n)))
      → xor_at at S (drop skip (f j)) ≡ xor s (take (at + (N - skip)) (drop base (blocks f 0 n)))
  piece-more s S l h e =
      let k = length-drop base (blocks f 0 n) in
      let m = length-blocks N f 0 n long in
      xor-piece s (drop base (blocks f 0 n)) S (drop skip (f j)) at (N - skip) e (omega arith) (omega arith) (piece (omega arith))
