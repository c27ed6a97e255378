-- The rounds, over a key schedule of which only the front is read.
use Rattle.std.proofs.Common.{◌≡◌, ℕ, zero, suc, ◌+◌, ◌-◌, ◌*◌, ◌/◌, ◌<◌, ◌≤◌, List, [], length, get_or, take, drop, sym, refl, ap, ◌∙◌, add-one, zero-add, arith}
use Rattle.octets.proofs.Arrays.{chunk-item}
use Rattle.std.proofs.lemmas.List.{get_or-take, get_or-drop}
use Rattle.std.specs.Simd.{first_chunks}
use Rattle.aes.specs.Cipher.{sub_bytes, shift_rows, mix_columns, add_round_key, rounds, cipher, key_expansion, aes}
use Rattle.aes.specs.KeyBytes.{key_bytes}
use Rattle.aes.proofs.Expansion.{length-key_bytes}

pub round-more : (ws s : List ℕ) (n : ℕ) → rounds ws s (n + 1) ≡ add_round_key (mix_columns (shift_rows (sub_bytes (rounds ws s n)))) ws (n + 1)
unfolding rounds
round-more ws s n = rw add-one refl

-- a round adds only four words
add-same : (s ws vs : List ℕ) (m n : ℕ) → ((c : ℕ) → c < 4 → get_or ws (4 * m + c) 0 ≡ get_or vs (4 * n + c) 0) → add_round_key s ws m ≡ add_round_key s vs n
unfolding add_round_key
add-same s ws vs m n h =
    let a = h 0 (omega arith) in
    let b = h 1 (omega arith) in
    let c = h 2 (omega arith) in
    let d = h 3 (omega arith) in
    simp (a, b, c, d)

-- they lie in the first m words
add-front : (ws s : List ℕ) (m n : ℕ) → 4 * n + 4 ≤ m → add_round_key s (take m ws) n ≡ add_round_key s ws n
add-front ws s m n h = add-same s (take m ws) ws n n (λ c l. get_or-take m ws (4 * n + c) 0 (omega arith))

-- they are round key n, where the schedule is cut into k keys
pub add-chunk : (ws s : List ℕ) (keys : List (List ℕ)) (k n : ℕ) → keys ≡ first_chunks 4 k ws → n < k → add_round_key s (get_or keys n []) 0 ≡ add_round_key s ws n
add-chunk ws s keys k n e h = rw e (add-same s (get_or (first_chunks 4 k ws) n []) ws 0 n (λ c l. rw zero-add (chunk-item 4 k n c ws h l)))

-- key n + 1 of them, read from a range of the keys
pub add-next : (ws s : List ℕ) (keys : List (List ℕ)) (k m n : ℕ) → keys ≡ first_chunks 4 k ws → n < m → n + 1 < k → add_round_key s (get_or (take m (drop 1 keys)) n []) 0 ≡ add_round_key s ws (n + 1)
add-next ws s keys k m n e l h =
    ap (λ x. add_round_key s x 0) (get_or-take m (drop 1 keys) n [] l ∙ get_or-drop 1 keys n [] ∙ ap (λ i. get_or keys i []) (omega arith))
    ∙ add-chunk ws s keys k (n + 1) e h

rounds-front : (ws s : List ℕ) (m n : ℕ) → 4 * n + 4 ≤ m → rounds (take m ws) s n ≡ rounds ws s n
unfolding rounds
rounds-front ws s m zero h = add-front ws s m 0 h
rounds-front ws s m (suc n) h =
    ap (λ (x : List ℕ). add_round_key (mix_columns (shift_rows (sub_bytes x))) (take m ws) (suc n)) (rounds-front ws s m n (omega arith))
    ∙ add-front ws (mix_columns (shift_rows (sub_bytes (rounds ws s n)))) m (suc n) h

-- the whole cipher, by the key that the schedule begins with
pub whole : (nk : ℕ) (ws block : List ℕ) → take (4 * (nk + 7)) ws ≡ key_expansion (key_bytes nk ws) nk
    → add_round_key (shift_rows (sub_bytes (rounds ws block (nk + 6 - 1)))) ws (nk + 6) ≡ aes (key_bytes nk ws) block
unfolding aes cipher
whole nk ws block e =
    let m = 4 * (nk + 7) in
    let n : length (key_bytes nk ws) / 4 ≡ nk = omega (arith, length-key_bytes nk ws) in
    sym (
    ap (λ (k : ℕ). cipher (k + 6) (key_expansion (key_bytes nk ws) k) block) n
    ∙ ap (λ (x : List ℕ). cipher (nk + 6) x block) (sym e)
    ∙ ap (λ (x : List ℕ). add_round_key (shift_rows (sub_bytes x)) (take m ws) (nk + 6)) (rounds-front ws block m (nk + 6 - 1) (omega arith))
    ∙ add-front ws (shift_rows (sub_bytes (rounds ws block (nk + 6 - 1)))) m (nk + 6) (omega arith))
