-- The value of POLYVAL from what its chain holds at the end.
use Rattle.std.specs.Prelude.{◌≡◌, ℕ, suc, ◌+◌, ◌-◌, ◌*◌, ◌/◌, ◌%◌, ◌^◌, ◌<◌, ◌≤◌, List, ◌++◌, length}
use Rattle.std.proofs.Common.{append-nil, sym, ap, ◌∙◌, length-append, arith}
use Rattle.std.proofs.lemmas.List.{length-replicate}
use Rattle.octets.proofs.Numbers.{length-le, bytes_le}
use Rattle.octets.specs.Strings.{Bytes, xor, xor_at, zeros, le}
use Rattle.hashes.specs.Chaining.{chained_more, taken-whole, taken_more, taken-end}
use Rattle.hashes.specs.Strings.{xor-zeros, xor_at-zeros, xor_at-start}
use Rattle.hashes.specs.Absorbed.{Taken, Absorbed}
use Rattle.hashes.specs.Chain.{chained}
use Rattle.hashes.specs.Polyval.{dot_block, padded, length_block, polyval}

length-length_block : (n : ℕ) → length (length_block n) ≡ 16
length-length_block n = length-append (le 8 (8 * n % 2 ^ 64)) (zeros 8) ∙ ap (λ (k : ℕ). k + 8) (length-le 8 (8 * n % 2 ^ 64))

-- the string filled to whole blocks
module _ (f : List ℕ → List ℕ) (s sum : List ℕ) (fill : ℕ) (so : Absorbed f s sum fill) where
  pub padded-none : fill ≡ 0 → Taken f (padded s) sum 0
  padded-none e =
      let n : (16 - length s % 16) % 16 ≡ 0 = omega (arith, so.waits e) in
      let same : padded s ≡ s = ap (λ (k : ℕ). s ++ zeros k) n ∙ append-nil s in
      rw (same, ← e) so.taken

  pub padded-part : 0 < fill → fill ≤ 16 → Taken f (padded s) (f sum) 0
  padded-part h l =
      let n : ℕ = (16 - length s % 16) % 16 in
      let z : length (zeros n) ≡ n = length-replicate n 0 in
      let t : Taken f (padded s) sum (fill + length (zeros n)) =
      rw (xor_at-zeros fill sum n) at (taken_more f s sum fill so.taken (zeros n)) in
      taken-whole f (padded s) sum (fill + length (zeros n)) t (omega (arith, so.taken.count))

pub polyval-end : (key s sum : List ℕ) → Taken (dot_block key) (padded s) sum 0 → dot_block key (xor sum (le 8 (8 * length s % 2 ^ 64))) ≡ polyval key s
unfolding polyval
polyval-end key s sum so =
    let block : List ℕ = length_block (length s) in
    let n : 0 + length block ≡ 16 = omega (arith, length-length_block (length s)) in
    let t = taken-whole (dot_block key) (padded s ++ block) (xor_at 0 sum block) (0 + length block) (taken_more (dot_block key) (padded s) sum 0 so block) n in
    ap (dot_block key) (sym (xor_at-start sum block ∙ xor-zeros sum (le 8 (8 * length s % 2 ^ 64)) 8))
    ∙ taken-end (dot_block key) (padded s ++ block) (dot_block key (xor_at 0 sum block)) t

-- the last step makes the value
polyval-last : (key s : List ℕ) → (b : List ℕ) × (polyval key s ≡ dot_block key b)
unfolding polyval
polyval-last key s =
    let all : List ℕ = padded s ++ length_block (length s) in
    let m : ℕ = length all / 16 - 1 in
    let n : length all / 16 ≡ suc m = omega (arith, length-append (padded s) (length_block (length s)), length-length_block (length s)) in
    (_, ap (λ (k : ℕ). chained (dot_block key) k (zeros 16) all) n ∙ chained_more (dot_block key) m (zeros 16) all)

pub length-polyval : (key s : List ℕ) → length (polyval key s) ≡ 16
unfolding dot_block
length-polyval key s = let l = polyval-last key s in ap length l.1 ∙ length-le 16 _

pub bytes-polyval : (key s : List ℕ) → Bytes (polyval key s)
unfolding dot_block
bytes-polyval key s = let l = polyval-last key s in rw l.1 (bytes_le 16 _)
