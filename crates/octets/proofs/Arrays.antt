-- Arrays: what `array::from_fn` makes of a closure that keeps its captures, and a slice cut into arrays.
use Rattle.std.proofs.Common.{◌≡◌, ℕ, zero, suc, ◌+◌, ◌*◌, ◌<◌, ◌≤◌, List, [], map, get_or, drop, subst, sym, ◌∙◌, ap, ⊎_elim, mul-zero, mul-suc, arith}
use denote.Param.Members.{Mut, Called}
use Rattle.std.proofs.lemmas.Bool.{cases_lt}
use Rattle.std.proofs.lemmas.List.{ext_get_or, get_or-take, get_or-drop}
use Rattle.std.proofs.lemmas.List.FromFn.{get_or-map-range_with_len, length-map-range_with_len}
use Rattle.std.specs.Array.{IsFromFnResult, IsFromFnResultFrom}
use Rattle.std.specs.List.{range_with_len}
use Rattle.std.specs.Simd.{first_chunks}

-- the value of v at each index
module _ {F B : Type 0} (g : Mut F (ℕ × Unit {0}) B) (v : ℕ → B) (f : F) (step : (i : ℕ) (y : B) (q : F) → Called g f (i, tt) y q → (y ≡ v i) × (q ≡ f)) where
  element : (ys : List B) (i m : ℕ) → IsFromFnResultFrom g f ys i m → (j : ℕ) (d : B) → i ≤ j → j < i + m → get_or ys j d ≡ v j
  element ys i zero h j d p l = absurd (omega arith)
  element ys i (suc m) (q, y, at, call, rest) j d p l =
      let s = step i y q call in
      ⊎_elim
      (λ k. let e : j ≡ i = omega arith in ap (λ n. get_or ys n d) e ∙ at.1 d ∙ s.0 ∙ ap v (sym e))
      (λ k. element ys (i + 1) m (subst (λ (p : F). IsFromFnResultFrom g p ys (i + 1) m) s.1 rest) j d (omega arith) (omega arith))
      (cases_lt j (suc i))

  pub items_from_fn : (ys : List B) (n : ℕ) (d : B) → IsFromFnResult g f ys n → ys ≡ map v (range_with_len 0 n)
  items_from_fn ys n d r =
      let l = length-map-range_with_len v 0 n in
      ext_get_or d ys (map v (range_with_len 0 n)) (r.long ∙ sym l)
      (λ k h. let b : k < n = omega (arith, r.long) in element ys 0 n r.each k d (omega arith) (omega arith) ∙ sym (get_or-map-range_with_len v 0 n k k d b (omega arith)))

-- an element of a slice that is cut into arrays of N
pub chunk-item : (N k i c : ℕ) (xs : List ℕ) → i < k → c < N → get_or (get_or (first_chunks N k xs) i []) c 0 ≡ get_or xs (N * i + c) 0
chunk-item N zero i c xs h l = absurd (omega arith)
chunk-item N (suc k) zero c xs h l = get_or-take N xs c 0 l ∙ ap (λ n. get_or xs n 0) (omega (arith, mul-zero N))
chunk-item N (suc k) (suc i) c xs h l =
    chunk-item N k i c (drop N xs) (omega arith) l ∙ get_or-drop N xs (N * i + c) 0 ∙ ap (λ n. get_or xs n 0) (omega (arith, mul-suc N i))
