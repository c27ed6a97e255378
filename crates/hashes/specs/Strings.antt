-- Strings that are joined and filled, added to, and read as numbers.
use Rattle.std.specs.Prelude.{◌≡◌, ℕ, zero, suc, ◌+◌, ◌-◌, ◌*◌, ◌/◌, ◌%◌, ◌≤◌, List, [], ◌∷◌, ◌++◌, reverse, length, take, drop, bit_xor, slice_index, refl}
use Rattle.std.proofs.Common.{ap, ap₂, ◌∙◌, take-append-drop, arith}
use Rattle.std.specs.Int.Bits.{xor_assoc, xor_zero_r}
use Rattle.octets.proofs.Xor.{xor-nil}
use Rattle.std.proofs.Math.Nat.{div-div-eq-div-mul}
use Rattle.std.proofs.lemmas.List.{take_all, drop_all, append-nil, get_or-reverse, length-reverse}
use Rattle.octets.specs.Strings.{xor, xor_at, zeros, filled, le, le_value, be, be_value}

-- a string and then another after it
pub xor-join : (a r p : List ℕ) → xor_at (length r) (xor a r) p ≡ xor a (r ++ p)
unfolding xor xor_at
xor-join [] [] p = refl
xor-join [] (y ∷ r) p = refl
xor-join (x ∷ a) [] p = refl
xor-join (x ∷ a) (y ∷ r) p = ap (λ (t : List ℕ). bit_xor x y ∷ t) (xor-join a r p)

-- zero bytes change nothing
pub xor-zeros : (a r : List ℕ) (k : ℕ) → xor a (r ++ zeros k) ≡ xor a r
unfolding xor
xor-zeros [] r k = refl
xor-zeros (x ∷ a) [] zero = refl
xor-zeros (x ∷ a) [] (suc k) = ap₂ (λ (y : ℕ) (t : List ℕ). y ∷ t) (xor_zero_r x) (xor-zeros a [] k ∙ xor-nil a)
xor-zeros (x ∷ a) (y ∷ r) k = ap (λ (t : List ℕ). bit_xor x y ∷ t) (xor-zeros a r k)

pub xor_at-zeros : (at : ℕ) (a : List ℕ) (k : ℕ) → xor_at at a (zeros k) ≡ a
unfolding xor_at
xor_at-zeros at a k =
    ap (λ (t : List ℕ). take at a ++ t) (xor-zeros (drop at a) [] k ∙ xor-nil (drop at a)) ∙ take-append-drop at a

pub xor_at-start : (a p : List ℕ) → xor_at 0 a p ≡ xor a p
unfolding xor_at
xor_at-start a p = refl

-- sixteen bytes are the block that they fill
pub filled-whole : (xs : List ℕ) → length xs ≡ 16 → filled 16 xs ≡ xs
unfolding filled
filled-whole xs e =
    let n : 16 - length xs ≡ 0 = omega arith in
    ap₂ (λ (t : List ℕ) (k : ℕ). t ++ zeros k) (take_all 16 xs (omega arith)) n ∙ append-nil xs

-- sixteen bytes and their number, as the library's conversions state them
value-from : (xs : List ℕ) (i : ℕ) → le_value (drop i xs) ≡ slice_index xs i + 256 * le_value (drop (suc i) xs)
unfolding le_value
value-from [] zero = refl
value-from [] (suc i) = refl
value-from (x ∷ xs) zero = refl
value-from (x ∷ xs) (suc i) = value-from xs i

pub value-sixteen : (xs : List ℕ) → length xs ≡ 16 → slice_index xs 0 + slice_index xs 1 * 256 + slice_index xs 2 * 65536 + slice_index xs 3 * 16777216 + slice_index xs 4 * 4294967296 + slice_index xs 5 * 1099511627776 + slice_index xs 6 * 281474976710656 + slice_index xs 7 * 72057594037927936 + slice_index xs 8 * 18446744073709551616 + slice_index xs 9 * 4722366482869645213696 + slice_index xs 10 * 1208925819614629174706176 + slice_index xs 11 * 309485009821345068724781056 + slice_index xs 12 * 79228162514264337593543950336 + slice_index xs 13 * 20282409603651670423947251286016 + slice_index xs 14 * 5192296858534827628530496329220096 + slice_index xs 15 * 1329227995784915872903807060280344576 ≡ le_value xs
unfolding le_value
value-sixteen xs e =
    let none : le_value (drop 16 xs) ≡ 0 = ap le_value (drop_all 16 xs (omega arith)) in
    omega (arith, value-from xs 0, value-from xs 1, value-from xs 2, value-from xs 3, value-from xs 4, value-from xs 5, value-from xs 6, value-from xs 7, value-from xs 8, value-from xs 9, value-from xs 10, value-from xs 11, value-from xs 12, value-from xs 13, value-from xs 14, value-from xs 15)

pub le-sixteen : (v : ℕ) → le 16 v ≡ v % 256 ∷ v / 256 % 256 ∷ v / 65536 % 256 ∷ v / 16777216 % 256 ∷ v / 4294967296 % 256 ∷ v / 1099511627776 % 256 ∷ v / 281474976710656 % 256 ∷ v / 72057594037927936 % 256 ∷ v / 18446744073709551616 % 256 ∷ v / 4722366482869645213696 % 256 ∷ v / 1208925819614629174706176 % 256 ∷ v / 309485009821345068724781056 % 256 ∷ v / 79228162514264337593543950336 % 256 ∷ v / 20282409603651670423947251286016 % 256 ∷ v / 5192296858534827628530496329220096 % 256 ∷ v / 1329227995784915872903807060280344576 % 256 ∷ []
unfolding le
le-sixteen v = simp div-div-eq-div-mul

reversed-at : (xs : List ℕ) (k j : ℕ) → length xs ≡ 16 → k + j ≡ 15 → slice_index (reverse xs) k ≡ slice_index xs j
reversed-at xs k j e s = get_or-reverse xs k 0 (omega arith) ∙ ap (λ (m : ℕ). slice_index xs m) (omega arith)

pub be-value-sixteen : (xs : List ℕ) → length xs ≡ 16 → slice_index xs 0 * 1329227995784915872903807060280344576 + slice_index xs 1 * 5192296858534827628530496329220096 + slice_index xs 2 * 20282409603651670423947251286016 + slice_index xs 3 * 79228162514264337593543950336 + slice_index xs 4 * 309485009821345068724781056 + slice_index xs 5 * 1208925819614629174706176 + slice_index xs 6 * 4722366482869645213696 + slice_index xs 7 * 18446744073709551616 + slice_index xs 8 * 72057594037927936 + slice_index xs 9 * 281474976710656 + slice_index xs 10 * 1099511627776 + slice_index xs 11 * 4294967296 + slice_index xs 12 * 16777216 + slice_index xs 13 * 65536 + slice_index xs 14 * 256 + slice_index xs 15 ≡ be_value xs
unfolding be_value
be-value-sixteen xs e =
    omega (arith, value-sixteen (reverse xs) (length-reverse xs ∙ e), reversed-at xs 0 15 e refl, reversed-at xs 1 14 e refl, reversed-at xs 2 13 e refl, reversed-at xs 3 12 e refl, reversed-at xs 4 11 e refl, reversed-at xs 5 10 e refl, reversed-at xs 6 9 e refl, reversed-at xs 7 8 e refl, reversed-at xs 8 7 e refl, reversed-at xs 9 6 e refl, reversed-at xs 10 5 e refl, reversed-at xs 11 4 e refl, reversed-at xs 12 3 e refl, reversed-at xs 13 2 e refl, reversed-at xs 14 1 e refl, reversed-at xs 15 0 e refl)

pub be-sixteen : (v : ℕ) → be 16 v ≡ v / 1329227995784915872903807060280344576 % 256 ∷ v / 5192296858534827628530496329220096 % 256 ∷ v / 20282409603651670423947251286016 % 256 ∷ v / 79228162514264337593543950336 % 256 ∷ v / 309485009821345068724781056 % 256 ∷ v / 1208925819614629174706176 % 256 ∷ v / 4722366482869645213696 % 256 ∷ v / 18446744073709551616 % 256 ∷ v / 72057594037927936 % 256 ∷ v / 281474976710656 % 256 ∷ v / 1099511627776 % 256 ∷ v / 4294967296 % 256 ∷ v / 16777216 % 256 ∷ v / 65536 % 256 ∷ v / 256 % 256 ∷ v % 256 ∷ []
unfolding be
be-sixteen v = ap reverse (le-sixteen v)

-- sums are associative where the middle reaches as far as the first
pub xor-grouped : (a b c : List ℕ) → length a ≤ length b → xor (xor a b) c ≡ xor a (xor b c)
unfolding xor
xor-grouped [] b c h = refl
xor-grouped (x ∷ a) [] c h = absurd (omega arith)
xor-grouped (x ∷ a) (y ∷ b) [] h = refl
xor-grouped (x ∷ a) (y ∷ b) (z ∷ c) h = ap₂ (λ (w : ℕ) (t : List ℕ). w ∷ t) (xor_assoc x y z) (xor-grouped a b c (omega arith))
