-- Chains over strings that grow.
use Rattle.std.specs.Prelude.{◌≡◌, ℕ, zero, suc, ◌+◌, ◌*◌, ◌/◌, ◌<◌, ◌≤◌, List, [], ◌++◌, length, take, drop}
use Rattle.std.proofs.Common.{append_assoc, sym, ◌∙◌, length-append}
use Rattle.std.proofs.Math.Path.{refl, ap, ap₂}
use Rattle.std.proofs.Math.ListN.{length-drop}
use native.Mathlib.Omega.{arith}
use Rattle.std.proofs.lemmas.List.{take-append-le, drop-append-le, drop-drop, take_all, drop_all}
use Rattle.octets.proofs.Xor.{xor-nil}
use Rattle.octets.specs.Strings.{xor, xor_at, zeros}
use Rattle.hashes.specs.Strings.{xor-join}
use Rattle.hashes.specs.Absorbed.{Taken, Absorbed}
use Rattle.hashes.specs.Chain.{chained}

module _ (f : List ℕ → List ℕ) where
  -- one block more
  pub chained_more : (n : ℕ) (s bs : List ℕ) → chained f (suc n) s bs ≡ f (xor (chained f n s bs) (take 16 (drop (16 * n) bs)))
  unfolding chained
  chained_more zero s bs = refl
  chained_more (suc n) s bs =
      let t : List ℕ = f (xor s (take 16 bs)) in
      chained_more n t (drop 16 bs)
      ∙ ap (λ (xs : List ℕ). f (xor (chained f n t (drop 16 bs)) (take 16 xs)))
      (drop-drop (16 * n) 16 bs ∙ ap (λ (k : ℕ). drop k bs) {x = 16 + 16 * n} {y = 16 * suc n} (omega arith))

  -- the blocks of a string that goes on
  pub chained-front : (n : ℕ) (s bs cs : List ℕ) → 16 * n ≤ length bs → chained f n s (bs ++ cs) ≡ chained f n s bs
  unfolding chained
  chained-front zero s bs cs h = refl
  chained-front (suc n) s bs cs h =
      let long : 16 ≤ length bs = omega arith in
      ap₂ (λ (xs ys : List ℕ). chained f n (f (xor s xs)) ys) (take-append-le 16 bs cs long) (drop-append-le 16 bs cs long)
      ∙ chained-front n (f (xor s (take 16 bs))) (drop 16 bs) cs (omega (arith, length-drop 16 bs))

  pub length-chained : ((b : List ℕ) → length (f b) ≡ 16) → (n : ℕ) (bs : List ℕ) → length (chained f n (zeros 16) bs) ≡ 16
  unfolding chained
  length-chained h zero bs = refl
  length-chained h (suc n) bs = ap length (chained_more n (zeros 16) bs) ∙ h _

  pub taken_none : Taken f [] (zeros 16) 0
  unfolding chained xor
  taken_none = record { blocks = 0; count = refl; total = refl }

  module _ (bs sum : List ℕ) (fill : ℕ) (so : Taken f bs sum fill) where
    abbrev q : ℕ
    q = so.blocks

    -- the bytes after the blocks that are in
    pub rest-length : length (drop (16 * q) bs) ≡ fill
    rest-length = omega (arith, length-drop (16 * q) bs, so.count)

    -- a whole block is taken in
    pub taken-whole : fill ≡ 16 → Taken f bs (f sum) 0
    taken-whole e =
        let all : take 16 (drop (16 * q) bs) ≡ drop (16 * q) bs = take_all 16 (drop (16 * q) bs) (omega (arith, rest-length)) in
        let none : drop (16 * suc q) bs ≡ [] = drop_all (16 * suc q) bs (omega (arith, so.count)) in
        record {
          blocks = suc q;
          count = omega (arith, so.count);
          total = sym (ap (xor (chained f (suc q) (zeros 16) bs)) none
              ∙ xor-nil (chained f (suc q) (zeros 16) bs)
              ∙ chained_more q (zeros 16) bs
              ∙ ap (λ (xs : List ℕ). f (xor (chained f q (zeros 16) bs) xs)) all
              ∙ ap f (sym so.total));
        }

    -- the block goes on
    pub taken_more : (p : List ℕ) → Taken f (bs ++ p) (xor_at fill sum p) (fill + length p)
    taken_more p =
        let c : List ℕ = chained f q (zeros 16) bs in
        let d : List ℕ = drop (16 * q) bs in
        let l : 16 * q ≤ length bs = omega (arith, so.count) in
        record {
          blocks = q;
          count = omega (arith, so.count, length-append bs p);
          total = ap (λ (s : List ℕ). xor_at fill s p) so.total
              ∙ ap (λ (k : ℕ). xor_at k (xor c d) p) (sym rest-length)
              ∙ xor-join c d p
              ∙ sym (ap₂ xor (chained-front q (zeros 16) bs p l) (drop-append-le (16 * q) bs p l));
        }

    -- some bytes more, so that none waits
    pub absorbed-more : (p : List ℕ) → 0 < length p → Absorbed f (bs ++ p) (xor_at fill sum p) (fill + length p)
    absorbed-more p h = record { taken = taken_more p; waits = λ e. absurd (omega arith) }

  pub absorbed-piece : (old done p sum sum' : List ℕ) (fill fill' : ℕ) → Taken f (old ++ done) sum fill → 0 < length p → sum' ≡ xor_at fill sum p → fill' ≡ fill + length p → Absorbed f (old ++ (done ++ p)) sum' fill'
  absorbed-piece old done p sum sum' fill fill' so h e n =
      rw (e, n, ← append_assoc old done p) (absorbed-more (old ++ done) sum fill so p h)

  pub absorbed-none : Absorbed f [] (zeros 16) 0
  absorbed-none = record { taken = taken_none; waits = λ e. refl }

  -- the blocks of a whole string
  pub taken-end : (bs sum : List ℕ) → Taken f bs sum 0 → sum ≡ chained f (length bs / 16) (zeros 16) bs
  taken-end bs sum so =
      let q : ℕ = so.blocks in
      let n : length bs / 16 ≡ q = omega (arith, so.count) in
      so.total
      ∙ ap (xor (chained f q (zeros 16) bs)) (drop_all (16 * q) bs (omega (arith, so.count)))
      ∙ xor-nil (chained f q (zeros 16) bs)
      ∙ ap (λ (k : ℕ). chained f k (zeros 16) bs) (sym n)
