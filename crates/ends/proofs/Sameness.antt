-- Lines that mean the same have the same sealings.
use Rattle.std.proofs.Common.{◌≡◌, ℕ, ◌+◌, ◌≤◌, List, ◌++◌, length, sym, ap, ◌∙◌, arith}
use Rattle.octets.specs.Strings.{Bytes, be}
use Rattle.octets.proofs.Bytes.{bytes-append}
use Rattle.octets.proofs.Numbers.{length-be, bytes-be}
use Rattle.std.proofs.lemmas.List.{length-append}
use Rattle.ciphers.specs.Admitted.{Admitted}
use Rattle.sealing.specs.Meaning.{Meaning, Lawful}
use Rattle.sealing.specs.Sealing.{tag, record_of, IsSealing}
use Rattle.ends.specs.Promise.{Same}

module _ (m m' : Meaning) (law : Lawful m) (same : Same m m') (header : List ℕ) (hb : Bytes header) where
  named : Bytes (m.line ++ header)
  named = bytes-append m.line header law.namebytes hb

  same_tag : tag m' header ≡ tag m header
  same_tag = ap (λ (l : List ℕ). m'.hash (l ++ header)) same.line ∙ same.hash (m.line ++ header) named

  same-record : (n : ℕ) (x : List ℕ) → Bytes x → Admitted m.lowest m.highest (be 8 n) (tag m header ++ x) → record_of m' header n x ≡ record_of m header n x
  same-record n x b a =
      ap (λ (y : List ℕ). be 8 n ++ m'.enc (be 8 n) (y ++ x)) same_tag
      ∙ ap (λ (y : List ℕ). be 8 n ++ y) (same.enc (be 8 n) (tag m header ++ x) a)

  admitted : (n : ℕ) (x : List ℕ) → Bytes x → m.lowest ≤ 16 + length x → 16 + length x ≤ m.highest → Admitted m.lowest m.highest (be 8 n) (tag m header ++ x)
  admitted n x b low high =
      let l = length-append (tag m header) x in
      let t = law.tagsize (m.line ++ header) named in
      record {
        tweak_long = length-be 8 n;
        tweak_bytes = bytes-be 8 n;
        low = omega arith;
        high = omega arith;
        bytes = bytes-append (tag m header) x (law.tagbytes (m.line ++ header) named) b;
      }

  pub to_same : (r : List ℕ) (n : ℕ) (x : List ℕ) → IsSealing m header r n x → IsSealing m' header r n x
  to_same r n x s =
      let lo = s.low in
      let hi = s.high in
      let el = same.lowest in
      let eh = same.highest in
      record {
        first = s.first;
        last = s.last;
        bytes = s.bytes;
        low = omega arith;
        high = omega arith;
        is = s.is ∙ sym (same-record n x s.bytes (admitted n x s.bytes lo hi));
      }

  pub from-same : (r : List ℕ) (n : ℕ) (x : List ℕ) → IsSealing m' header r n x → IsSealing m header r n x
  from-same r n x s =
      let lo = s.low in
      let hi = s.high in
      let el = same.lowest in
      let eh = same.highest in
      record {
        first = s.first;
        last = s.last;
        bytes = s.bytes;
        low = omega arith;
        high = omega arith;
        is = s.is ∙ same-record n x s.bytes (admitted n x s.bytes (omega arith) (omega arith));
      }
