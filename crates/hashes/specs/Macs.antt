-- The value of CMAC from what its chain holds at the end, and its subkeys.
use Rattle.std.specs.Prelude.{◌≡◌, ℕ, suc, ◌+◌, ◌-◌, ◌*◌, ◌/◌, ◌%◌, ◌^◌, ◌<◌, ◌≤◌, List, [], ◌∷◌, ◌++◌, length, drop, ◌==◌, bit_xor, nat_lt}
use Rattle.std.proofs.Common.{append_assoc, ⊎_elim, sym, ap₂, ◌∙◌, length-append, arith}
use Rattle.std.proofs.Math.Path.{ap}
use Rattle.std.specs.Int.Bits.{xor_zero_r}
use Rattle.std.proofs.lemmas.List.{length-replicate}
use Rattle.std.proofs.lemmas.Bool.{cases_eq, cases_lt, cond-true, cond-false, eq-eqb, ne_eqb, lt-ltb, le-ltb}
use Rattle.octets.specs.Strings.{Bytes, xor, xor_at, zeros}
use Rattle.aes.proofs.Values.{value_length, value_bytes}
use Rattle.aes.specs.Cipher.{aes}
use Rattle.hashes.specs.Chaining.{length-chained, rest-length}
use Rattle.hashes.specs.Strings.{xor-join, xor-zeros, xor-grouped}
use Rattle.hashes.specs.Absorbed.{Absorbed}
use Rattle.hashes.specs.Chain.{chained}
use Rattle.hashes.specs.Cmac.{Rb, shifted, doubled, K1, K2, blocks, padding, last_block, cmac}

-- the subkeys' step by a mask
pub doubled-is : (v : ℕ) → v < 2 ^ 128 → bit_xor (v * 2 % 2 ^ 128) (v / 2 ^ 127 % 2 * Rb) ≡ doubled v
doubled-is v h =
    let two : v * 2 % 2 ^ 128 ≡ shifted v = omega arith in
    ⊎_elim
    (λ l.
    let none : v / 2 ^ 127 % 2 * Rb ≡ 0 = omega arith in
    ap₂ bit_xor two none ∙ xor_zero_r (shifted v) ∙ sym (cond-true (nat_lt v (2 ^ 127)) (shifted v) (bit_xor (shifted v) Rb) (lt-ltb v (2 ^ 127) l)))
    (λ g.
    let one : v / 2 ^ 127 % 2 * Rb ≡ Rb = omega arith in
    ap₂ bit_xor two one ∙ sym (cond-false (nat_lt v (2 ^ 127)) (shifted v) (bit_xor (shifted v) Rb) (le-ltb v (2 ^ 127) g)))
    (cases_lt v (2 ^ 127))

module _ (key s sum : List ℕ) (fill : ℕ) (so : Absorbed (aes key) s sum fill) (few : fill ≤ 16) where
  abbrev q : ℕ
  q = so.taken.blocks

  -- X and the last block
  abbrev x : List ℕ
  x = chained (aes key) q (zeros 16) s

  abbrev m : List ℕ
  m = drop (16 * q) s

  length-x : length x ≡ 16
  length-x = length-chained (aes key) (value_length key) q s

  length-m : length m ≡ fill
  length-m = rest-length (aes key) s sum fill so.taken

  before_last : blocks s - 1 ≡ q
  before_last =
      ⊎_elim
      (λ e.
      ap (λ (k : ℕ). k - 1) (cond-true (length s == 0) 1 ((length s + 15) / 16) (eq-eqb (length s) 0 e))
      ∙ omega (arith, so.taken.count))
      (λ h.
      let some : 0 < fill = ⊎_elim (λ l. l) (λ g. absurd (h (so.waits (omega arith)))) (cases_lt 0 fill) in
      ap (λ (k : ℕ). k - 1) (cond-false (length s == 0) 1 ((length s + 15) / 16) (ne_eqb (length s) 0 h))
      ∙ omega (arith, so.taken.count))
      (cases_eq (length s) 0)

  ends : (last : List ℕ) → last ≡ xor x (last_block key m) → aes key last ≡ cmac key s
  unfolding cmac
  ends last e =
      ap (aes key) e
      ∙ ap (λ (n : ℕ). aes key (xor (chained (aes key) n (zeros 16) s) (last_block key (drop (16 * n) s)))) (sym before_last)

  pub cmac-complete : fill ≡ 16 → aes key (xor sum (K1 key)) ≡ cmac key s
  cmac-complete e =
      ends (xor sum (K1 key))
      (ap (λ (t : List ℕ). xor t (K1 key)) so.taken.total
      ∙ xor-grouped x m (K1 key) (omega (arith, length-x, length-m))
      ∙ ap (xor x) (sym (cond-true (length m == 16) (xor m (K1 key)) (xor (padding m) (K2 key)) (eq-eqb (length m) 16 (length-m ∙ e)))))

  pub cmac-incomplete : fill < 16 → aes key (xor (xor_at fill sum (0x80 ∷ [])) (K2 key)) ≡ cmac key s
  cmac-incomplete h =
      let one : List ℕ = 0x80 ∷ [] in
      let j : ℕ = 15 - length m in
      let z : length (zeros j) ≡ j = length-replicate j 0 in
      let n : length (padding m) ≡ length m + suc (length (zeros j)) = length-append m (0x80 ∷ zeros j) in
      let padded : xor_at fill sum one ≡ xor x (padding m) =
      ap₂ (λ (k : ℕ) (t : List ℕ). xor_at k t one) (sym length-m) so.taken.total
      ∙ xor-join x m one
      ∙ sym (xor-zeros x (m ++ one) j)
      ∙ ap (xor x) (append_assoc m one (zeros j)) in
      ends (xor (xor_at fill sum one) (K2 key))
      (ap (λ (t : List ℕ). xor t (K2 key)) padded
      ∙ xor-grouped x (padding m) (K2 key) (omega (arith, length-x, length-m))
      ∙ ap (xor x) (sym (cond-false (length m == 16) (xor m (K1 key)) (xor (padding m) (K2 key)) (ne_eqb (length m) 16 (λ e. omega (arith, length-m))))))

pub length-cmac : (key s : List ℕ) → length (cmac key s) ≡ 16
unfolding cmac
length-cmac key s = value_length key _

pub bytes-cmac : (key s : List ℕ) → Bytes (cmac key s)
unfolding cmac
bytes-cmac key s = value_bytes key _
