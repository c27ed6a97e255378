-- The key schedule, word by word.
use Rattle.std.proofs.Common.{◌≡◌, ℕ, zero, suc, ◌+◌, ◌-◌, ◌*◌, ◌/◌, ◌%◌, ◌<◌, ◌≤◌, ◌≢◌, List, [], ◌∷◌, ◌++◌, length, get_or, take, set, sym, refl, ap, ◌∙◌, ap₂, add-zero, zero-add, arith, length-append, le-ltb, lt-ltb, eq-eqb, ne_eqb}
use lib.Bits.{bit_xor}
use Rattle.std.proofs.lemmas.List.FromFn.{map-range_with_len_more, length-map-range_with_len, get_or-map-range_with_len, fill_by_all}
use Rattle.std.proofs.lemmas.List.{take_more_set, length-take-le, get_or-take, get_or_append_left}
use Rattle.octets.specs.Strings.{Bytes}
use Rattle.aes.specs.Cipher.{byte, temp, sub_word, rot_word, rcon, next_word, expanded, key_word, key_words, key_expansion}
use Rattle.aes.specs.KeyBytes.{key_bytes}
use Rattle.aes.proofs.Words.{word_bytes}

module _ (nk i w : ℕ) where
  pub temp-zero : i % nk ≡ 0 → temp nk i w ≡ bit_xor (sub_word (rot_word w)) (rcon (i / nk))
  unfolding temp
  temp-zero h = rw (eq-eqb (i % nk) 0 h)

  pub temp-four : 6 < nk → i % nk ≡ 4 → temp nk i w ≡ sub_word w
  unfolding temp
  temp-four h e = rw (e, lt-ltb 6 nk h)

  pub temp-low : i % nk ≢ 0 → nk ≤ 6 → temp nk i w ≡ w
  unfolding temp
  temp-low h l = rw (ne_eqb (i % nk) 0 h, le-ltb 6 nk l)

  pub temp-else : i % nk ≢ 0 → 6 < nk → i % nk ≢ 4 → temp nk i w ≡ w
  unfolding temp
  temp-else h l k = rw (ne_eqb (i % nk) 0 h, lt-ltb 6 nk l, ne_eqb (i % nk) 4 k)

-- one more word of the key itself
pub key_more : (key ws : List ℕ) (i v : ℕ) → i < length ws → take i ws ≡ key_words key i
    → v ≡ key_word key i
    → take (i + 1) (set ws i v) ≡ key_words key (i + 1)
key_more key ws i v h e p =
    take_more_set ws i v h ∙ ap₂ (λ (xs : List ℕ) (x : ℕ). xs ++ x ∷ []) e p
    ∙ sym (map-range_with_len_more (key_word key) 0 i i (zero-add i))

-- one more word of the schedule
pub schedule-more : (nk : ℕ) (key ws : List ℕ) (i v : ℕ) → 0 < nk → nk ≤ i → i < length ws → take i ws ≡ expanded nk (i - nk) key
    → v ≡ temp nk i (get_or ws (i - 1) 0)
    → take (i + 1) (set ws i (bit_xor (get_or ws (i - nk) 0) v)) ≡ expanded nk (i + 1 - nk) key
unfolding expanded
schedule-more nk key ws i v n g h e p =
    let l : length (take i ws) ≡ i = length-take-le i ws (omega arith) in
    let s : i + 1 - nk ≡ suc (i - nk) = omega arith in
    let a : get_or (take i ws) (i - nk) 0 ≡ get_or ws (i - nk) 0 = get_or-take i ws (i - nk) 0 (omega arith) in
    let b : get_or (take i ws) (i - 1) 0 ≡ get_or ws (i - 1) 0 = get_or-take i ws (i - 1) 0 (omega arith) in
    let m : next_word nk (take i ws) ≡ bit_xor (get_or ws (i - nk) 0) v = simp (l, a, b) (ap (bit_xor (get_or ws (i - nk) 0)) (sym p)) in
    take_more_set ws i (bit_xor (get_or ws (i - nk) 0) v) h ∙ ap (λ (x : ℕ). take i ws ++ x ∷ []) (sym m)
    ∙ ap (λ (xs : List ℕ). xs ++ next_word nk xs ∷ []) e ∙ ap (λ (n : ℕ). expanded nk n key) (sym s)

length-expanded : (nk n : ℕ) (ws : List ℕ) → length (expanded nk n ws) ≡ length ws + n
unfolding expanded
length-expanded nk zero ws = sym (add-zero (length ws))
length-expanded nk (suc n) ws = length-append (expanded nk n ws) (next_word nk (expanded nk n ws) ∷ []) ∙ omega (arith, length-expanded nk n ws)

-- the first words stay
expanded-front : (nk n : ℕ) (ws : List ℕ) (i : ℕ) → i < length ws → get_or (expanded nk n ws) i 0 ≡ get_or ws i 0
unfolding expanded
expanded-front nk zero ws i h = refl
expanded-front nk (suc n) ws i h =
    get_or_append_left (expanded nk n ws) (next_word nk (expanded nk n ws) ∷ []) 0 i (omega (arith, length-expanded nk n ws))
    ∙ expanded-front nk n ws i h

-- a byte of a word of the key
key-byte : (key : List ℕ) → Bytes key → (q r : ℕ) → r < 4 → byte r (key_word key q) ≡ get_or key (4 * q + r) 0
key-byte key b q r h =
    let w = word_bytes (get_or key (4 * q) 0) (get_or key (4 * q + 1) 0) (get_or key (4 * q + 2) 0) (get_or key (4 * q + 3) 0) (b (4 * q)) (b (4 * q + 1)) (b (4 * q + 2)) (b (4 * q + 3)) in
    elim r as (λ n. n < 4 → byte n (key_word key q) ≡ get_or key (4 * q + n) 0) [
      | zero ↦ λ h. w.b0 ∙ ap (λ (i : ℕ). get_or key i 0) (sym (add-zero (4 * q)))
      | suc zero ↦ λ h. w.b1
      | suc (suc zero) ↦ λ h. w.b2
      | suc (suc (suc zero)) ↦ λ h. w.b3
      | suc (suc (suc (suc n))) ↦ λ h. absurd (omega arith)
    ] h

module _ (key ws : List ℕ) (nk : ℕ) (e : take (4 * (nk + 7)) ws ≡ key_expansion key nk) where
  -- the first words of the schedule are those of the key
  schedule-front : (i : ℕ) → i < nk → get_or ws i 0 ≡ key_word key i
  unfolding key_expansion
  schedule-front i h =
      sym (get_or-take (4 * (nk + 7)) ws i 0 (omega arith)) ∙ ap (λ (xs : List ℕ). get_or xs i 0) e
      ∙ expanded-front nk (4 * (nk + 7) - nk) (key_words key nk) i (rw (length-map-range_with_len (key_word key) 0 nk) h)
      ∙ get_or-map-range_with_len (key_word key) 0 nk i i 0 h (zero-add i)

  -- so the key can be read from it
  pub key_back : Bytes key → length key ≡ 4 * nk → key_bytes nk ws ≡ key
  unfolding key_bytes
  key_back b l =
      sym (fill_by_all (λ i. byte (i % 4) (get_or ws (i / 4) 0)) key (4 * nk) 0 l (λ k h.
      let m : k / 4 < nk = omega arith in
      let at : 4 * (k / 4) + k % 4 ≡ k = omega arith in
      ap (λ (i : ℕ). get_or key i 0) (sym at) ∙ sym (key-byte key b (k / 4) (k % 4) (omega arith))
      ∙ ap (byte (k % 4)) (sym (schedule-front (k / 4) m))))

  pub scheduled : Bytes key → length key ≡ 4 * nk → take (4 * (nk + 7)) ws ≡ key_expansion (key_bytes nk ws) nk
  scheduled b l = e ∙ ap (λ (k : List ℕ). key_expansion k nk) (sym (key_back b l))

pub length-key_bytes : (nk : ℕ) (ws : List ℕ) → length (key_bytes nk ws) ≡ 4 * nk
unfolding key_bytes
length-key_bytes nk ws = length-map-range_with_len (λ i. byte (i % 4) (get_or ws (i / 4) 0)) 0 (4 * nk)
