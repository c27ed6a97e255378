-- A stretch of a sequence, as it comes of zero bytes.
use Rattle.std.proofs.Common.{◌≡◌, ℕ, zero, suc, ◌+◌, ◌≤◌, ◌⊎◌, List, [], ◌∷◌, length, take, drop, Ok, sym, refl, ap, ◌∙◌, arith}
use lib.ListN.{length-replicate}
use Rattle.std.proofs.lemmas.List.{length-drop, take-replicate}
use Rattle.std.proofs.lemmas.Bool.Decides.{nat_tests}
use Rattle.octets.specs.Strings.{xor, zeros}
use Rattle.expanders.specs.Refusals.{adding}

-- bytes added to zero bytes
xor-zeros : (n : ℕ) (s : List ℕ) → n ≤ length s → xor (zeros n) s ≡ take n s
unfolding xor
xor-zeros zero s h = refl
xor-zeros (suc n) [] h = absurd (omega arith)
xor-zeros (suc n) (x ∷ s) h = ap (λ (l : List ℕ). x ∷ l) (xor-zeros n s (omega arith))

-- the front of zero bytes
pub front-blank : (n m : ℕ) (blank : List ℕ) → blank ≡ zeros n → m ≤ n → take m blank ≡ zeros (length (take m blank))
front-blank n m blank b h =
    let front : take m blank ≡ zeros m = ap (take m) b ∙ take-replicate m n 0 h in
    front ∙ ap zeros (sym (ap length front ∙ length-replicate m 0))

within-reach : (reach domain end : ℕ) (x : Unit {0}) → Ok x ≡ adding reach domain end → end ≤ reach
within-reach reach domain end x e = grind (arith, nat_tests)

pub known-domain : (reach domain end : ℕ) (x : Unit {0}) → Ok x ≡ adding reach domain end → (domain ≡ 1) ⊎ (domain ≡ 2)
known-domain reach domain end x e = grind (arith, nat_tests)

-- zero bytes to which the sequence s was added from a position on
pub stretched : (reach domain from : ℕ) (x : Unit {0}) (s bytes : List ℕ) → Ok x ≡ adding reach domain (from + length bytes) → length s ≡ reach → bytes ≡ zeros (length bytes) → xor bytes (drop from s) ≡ take (length bytes) (drop from s)
stretched reach domain from x s bytes v long blank =
    let end = within-reach reach domain (from + length bytes) x v in
    let fits : length bytes ≤ length (drop from s) = simp length-drop (omega arith) in
    ap (λ (l : List ℕ). xor l (drop from s)) blank ∙ xor-zeros (length bytes) (drop from s) fits
