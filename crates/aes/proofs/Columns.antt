-- Columns as words: their bytes.
use Rattle.std.proofs.Common.{◌≡◌, ℕ, List, [], ◌∷◌, refl, ap, ◌∙◌, ap₂}
use lib.Bits.{bit_xor, xor_assoc, xor_comm}
use Rattle.aes_tables.specs.Field.{sbox, mul}
use Rattle.aes_tables.proofs.Bounds.{mul-lt, sbox-lt}
use Rattle.aes.specs.Cipher.{byte}
use Rattle.aes.specs.Columns.{HasBytes, IsMixed, IsMixedSub, bytes_of, sub_column, mix_column, t}
use Rattle.aes.proofs.Words.{byte-xor, word_bytes}

cons : {x y : ℕ} {xs ys : List ℕ} → x ≡ y → xs ≡ ys → ◌≡◌ {A = List ℕ} (x ∷ xs) (y ∷ ys)
cons p q = ap₂ (λ (x : ℕ) (xs : List ℕ). x ∷ xs) p q

-- the bytes of four words, as a list
pub four : (p q r s : ℕ) {a0 a1 a2 a3 b0 b1 b2 b3 c0 c1 c2 c3 d0 d1 d2 d3 : ℕ} → HasBytes p a0 a1 a2 a3 → HasBytes q b0 b1 b2 b3 → HasBytes r c0 c1 c2 c3 → HasBytes s d0 d1 d2 d3
    → bytes_of (p ∷ q ∷ r ∷ s ∷ []) ≡ a0 ∷ a1 ∷ a2 ∷ a3 ∷ b0 ∷ b1 ∷ b2 ∷ b3 ∷ c0 ∷ c1 ∷ c2 ∷ c3 ∷ d0 ∷ d1 ∷ d2 ∷ d3 ∷ []
unfolding bytes_of
four p q r s a b c d =
    cons a.b0 (cons a.b1 (cons a.b2 (cons a.b3 (cons b.b0 (cons b.b1 (cons b.b2 (cons b.b3 (cons c.b0 (cons c.b1 (cons c.b2 (cons c.b3 (cons d.b0 (cons d.b1 (cons d.b2 (cons d.b3 refl)))))))))))))))

pub own-bytes : (w : ℕ) → HasBytes w (byte 0 w) (byte 1 w) (byte 2 w) (byte 3 w)
own-bytes w = record { b0 = refl; b1 = refl; b2 = refl; b3 = refl }

pub xor_bytes : (v w : ℕ) {a b c d e f g h : ℕ} → HasBytes v a b c d → HasBytes w e f g h
    → HasBytes (bit_xor v w) (bit_xor a e) (bit_xor b f) (bit_xor c g) (bit_xor d h)
xor_bytes v w p q =
    record {
      b0 = byte-xor 0 v w ∙ ap₂ bit_xor p.b0 q.b0;
      b1 = byte-xor 1 v w ∙ ap₂ bit_xor p.b1 q.b1;
      b2 = byte-xor 2 v w ∙ ap₂ bit_xor p.b2 q.b2;
      b3 = byte-xor 3 v w ∙ ap₂ bit_xor p.b3 q.b3;
    }

-- a column after SubBytes
pub sub-bytes : (a b c d : ℕ) → HasBytes (sub_column a b c d) (sbox (byte 0 a)) (sbox (byte 1 b)) (sbox (byte 2 c)) (sbox (byte 3 d))
unfolding sub_column
sub-bytes a b c d =
    word_bytes (sbox (byte 0 a)) (sbox (byte 1 b)) (sbox (byte 2 c)) (sbox (byte 3 d)) (sbox-lt (byte 0 a)) (sbox-lt (byte 1 b)) (sbox-lt (byte 2 c)) (sbox-lt (byte 3 d))

-- the first of four summands goes to the end
turn : (a b c d : ℕ) → bit_xor (bit_xor (bit_xor a b) c) d ≡ bit_xor (bit_xor (bit_xor b c) d) a
turn a b c d = ap (λ (x : ℕ). bit_xor x d) (xor_assoc a b c) ∙ xor_assoc a (bit_xor b c) d ∙ xor_comm a (bit_xor (bit_xor b c) d)

-- the same from the bytes of its four rows
module _ (a b c d : ℕ) where
  -- the summands in the order of the rows
  sums : HasBytes (bit_xor (bit_xor (bit_xor (t 0 a) (t 1 b)) (t 2 c)) (t 3 d))
      (bit_xor (bit_xor (bit_xor (mul 2 (sbox a)) (mul 3 (sbox b))) (sbox c)) (sbox d))
      (bit_xor (bit_xor (bit_xor (sbox a) (mul 2 (sbox b))) (mul 3 (sbox c))) (sbox d))
      (bit_xor (bit_xor (bit_xor (sbox a) (sbox b)) (mul 2 (sbox c))) (mul 3 (sbox d)))
      (bit_xor (bit_xor (bit_xor (mul 3 (sbox a)) (sbox b)) (sbox c)) (mul 2 (sbox d)))
  unfolding t
  sums =
      let p = sbox a in
      let q = sbox b in
      let r = sbox c in
      let s = sbox d in
      xor_bytes _ _
      (xor_bytes _ _
      (xor_bytes _ _
      (word_bytes (mul 2 p) p p (mul 3 p) (mul-lt 2 p (sbox-lt a)) (sbox-lt a) (sbox-lt a) (mul-lt 3 p (sbox-lt a)))
      (word_bytes (mul 3 q) (mul 2 q) q q (mul-lt 3 q (sbox-lt b)) (mul-lt 2 q (sbox-lt b)) (sbox-lt b) (sbox-lt b)))
      (word_bytes r (mul 3 r) (mul 2 r) r (sbox-lt c) (mul-lt 3 r (sbox-lt c)) (mul-lt 2 r (sbox-lt c)) (sbox-lt c)))
      (word_bytes s s (mul 3 s) (mul 2 s) (sbox-lt d) (sbox-lt d) (mul-lt 3 s (sbox-lt d)) (mul-lt 2 s (sbox-lt d)))

  mixed : IsMixed (bit_xor (bit_xor (bit_xor (t 0 a) (t 1 b)) (t 2 c)) (t 3 d)) (sbox a) (sbox b) (sbox c) (sbox d)
  mixed =
      let p = sbox a in
      let q = sbox b in
      let r = sbox c in
      let s = sbox d in
      record {
        b0 = sums.b0;
        b1 = sums.b1 ∙ turn p (mul 2 q) (mul 3 r) s;
        b2 = sums.b2 ∙ turn p q (mul 2 r) (mul 3 s) ∙ turn q (mul 2 r) (mul 3 s) p;
        b3 = sums.b3 ∙ turn (mul 3 p) q r (mul 2 s) ∙ turn q r (mul 2 s) (mul 3 p) ∙ turn r (mul 2 s) (mul 3 p) q;
      }

-- a column after SubBytes and MixColumns
pub mixed-bytes : (a b c d : ℕ) → IsMixedSub (mix_column a b c d) a b c d
unfolding mix_column
mixed-bytes a b c d = mixed (byte 0 a) (byte 1 b) (byte 2 c) (byte 3 d)
