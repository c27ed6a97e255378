-- The bytes of words.
use Rattle.std.proofs.Common.{◌≡◌, ℕ, ◌+◌, ◌-◌, ◌*◌, ◌/◌, ◌%◌, ◌<◌, ◌≤◌, List, [], ◌∷◌, length, get_or, take, sym, refl, ap, ◌∙◌, mul-suc, arith}
use borrow.Rule.Slice.PartMut.{put_mid}
use Rattle.octets.specs.Strings.{Bytes, le, le_value}
use Rattle.octets.proofs.Bytes.{bytes-append, bytes-zeros}
use Rattle.octets.proofs.Numbers.{length-le, bytes_le}
use Rattle.std.proofs.lemmas.List.{length-append, append-nil, take_more}
use Rattle.std.proofs.lemmas.Grind.{flat_map-append}
use Rattle.std.proofs.lemmas.Slice.{take-put_mid}
use Rattle.std.specs.List.{flat_map}
use Rattle.chacha.specs.Words.{word, serialized}

pub length-serialized : (ws : List ℕ) → length (serialized ws) ≡ 4 * length ws
unfolding serialized
length-serialized [] = refl
length-serialized (w ∷ ws) =
    let a = length-append (le 4 w) (flat_map (le 4) ws) in
    let b = length-le 4 w in
    let r = length-serialized ws in
    omega (arith, mul-suc 4 (length ws))

pub bytes-serialized : (ws : List ℕ) → Bytes (serialized ws)
unfolding serialized
bytes-serialized [] = bytes-zeros 0
bytes-serialized (w ∷ ws) = bytes-append (le 4 w) (flat_map (le 4) ws) (bytes_le 4 w) (bytes-serialized ws)

-- the four bytes one by one, as the library's own conversion states them
pub le_four : (n : ℕ) → le 4 n ≡ n % 256 ∷ n / 256 % 256 ∷ n / 65536 % 256 ∷ n / 16777216 % 256 ∷ []
unfolding le
le_four n =
    let e2 : n / 256 / 256 ≡ n / 65536 = omega arith in
    let e3 : n / 256 / 256 / 256 ≡ n / 16777216 = omega arith in
    cc

-- one more word: the bytes of the first i words stand at the front, and word i is written after them
pub serial-more : (ws bs part : List ℕ) (i : ℕ) → i < length ws → 4 * i ≤ length bs → take (4 * i) bs ≡ serialized (take i ws)
    → part ≡ (get_or ws i 0 % 256 ∷ get_or ws i 0 / 256 % 256 ∷ get_or ws i 0 / 65536 % 256 ∷ get_or ws i 0 / 16777216 % 256 ∷ [])
    → take (4 * (i + 1)) (put_mid (4 * i) (4 * i + 4 - 4 * i) bs part) ≡ serialized (take (i + 1) ws)
unfolding serialized
serial-more ws bs part i h n e p =
    let w = get_or ws i 0 in
    let q : part ≡ le 4 w = p ∙ sym (le_four w) in
    let l : length part ≡ 4 = ap length q ∙ length-le 4 w in
    let t = take_more ws i 0 h in
    let s = flat_map-append (le 4) (take i ws) (w ∷ []) in
    let o = append-nil (le 4 w) in
    let m = take-put_mid (4 * i) (4 * i + 4 - 4 * i) bs part (4 * (i + 1)) (omega arith) n in
    cc

pub word_value : (s : List ℕ) (i : ℕ) → get_or s (4 * i) 0 + get_or s (4 * i + 1) 0 * 256 + get_or s (4 * i + 2) 0 * 65536 + get_or s (4 * i + 3) 0 * 16777216 ≡ word s i
unfolding word le_value
word_value s i = omega arith
