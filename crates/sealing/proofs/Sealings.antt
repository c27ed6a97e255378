-- Sealings, and the records that opening accepts.
use Rattle.std.proofs.Common.{◌≡◌, ℕ, ◌+◌, ◌-◌, ◌^◌, ◌≤◌, Bool, true, false, List, ◌++◌, length, take, drop, Ok, Err, Result, sym, refl, ap, ◌∙◌, subst, ap₂, add_comm, arith}
use Rattle.octets.specs.Strings.{Bytes, be, be_value, same}
use Rattle.octets.proofs.Bytes.{bytes-append, bytes_take, bytes_drop}
use Rattle.octets.proofs.Numbers.{be_value_be, be_be_value, length-be, bytes-be}
use Rattle.octets.proofs.Same.{same_is, is_same}
use Rattle.std.proofs.lemmas.List.{append_cancel_left, drop_at, length-append, length-drop, length-take-le, take-append-drop, take_at}
use Rattle.ciphers.specs.Admitted.{Admitted}
use Rattle.ciphers.proofs.Verdicts.{within}
use Rattle.sealing.proofs.Examined.{Examined, examined, examines, unless-ok, admitting-ok, numbered-ok, same-value}
use Rattle.sealing.specs.Calls.{plain, number_of, text_of, tagged, fitting, sealing, examining, opening, placed}
use Rattle.sealing.specs.Exactly.{LawfulSizes, OpensExactly}
use Rattle.sealing.specs.Meaning.{Meaning, Lawful}
use Rattle.sealing.specs.Sealing.{tag, record_of, IsSealing}
use Rattle.sealing.specs.declared.fault.SealingFault.{SealingFault}
use Rattle.sealing.specs.declared.plain_open.Opened.{Opened}

-- what a record was found to be, where it was not refused
pub tagged-by : (r : List ℕ) (b : Bool) (v : Result ℕ SealingFault) (o : Opened) → tagged b r v ≡ Ok o → (b ≡ true) × (Ok o.number ≡ v) × (o.length ≡ length r - 24)
tagged-by r true (Ok n) o e = (refl, cc, cc)
tagged-by r false (Ok n) o e = absurd cc
tagged-by r b (Err f) o e = absurd cc

module _ (m : Meaning) (law : Lawful m) (header r : List ℕ) (hb : Bytes header) where
  tag-bytes : Bytes (m.line ++ header)
  tag-bytes = bytes-append m.line header law.namebytes hb

  tag-long : length (tag m header) ≡ 16
  tag-long = law.tagsize (m.line ++ header) tag-bytes

  -- what is enciphered is admitted
  body : (n : ℕ) (x : List ℕ) → IsSealing m header r n x → Admitted m.lowest m.highest (be 8 n) (tag m header ++ x)
  body n x s =
      let l = length-append (tag m header) x in
      let t = tag-long in
      let lo = s.low in
      let hi = s.high in
      record {
        tweak_long = length-be 8 n;
        tweak_bytes = bytes-be 8 n;
        low = omega arith;
        high = omega arith;
        bytes = bytes-append (tag m header) x (law.tagbytes (m.line ++ header) tag-bytes) s.bytes;
      }

  front : (n : ℕ) (x : List ℕ) → IsSealing m header r n x → take 8 r ≡ be 8 n
  front n x s = ap (take 8) s.is ∙ take_at (be 8 n) (m.enc (be 8 n) (tag m header ++ x)) 8 (length-be 8 n)

  -- deciphering a sealing gives its tag and its text
  pub plain-is : (n : ℕ) (x : List ℕ) → IsSealing m header r n x → plain m r ≡ tag m header ++ x
  plain-is n x s =
      let rest : drop 8 r ≡ m.enc (be 8 n) (tag m header ++ x) = ap (drop 8) s.is ∙ drop_at (be 8 n) (m.enc (be 8 n) (tag m header ++ x)) 8 (length-be 8 n) in
      ap₂ m.dec (front n x s) rest ∙ law.undone (be 8 n) (tag m header ++ x) (body n x s)

  pub number_is : (n : ℕ) (x : List ℕ) → IsSealing m header r n x → n ≡ number_of r
  number_is n x s = let last = s.last in sym (ap be_value (front n x s) ∙ be_value_be 8 n (omega arith))

  length-is : (n : ℕ) (x : List ℕ) → IsSealing m header r n x → length r ≡ 24 + length x
  length-is n x s =
      let a = ap length s.is in
      let b = length-append (be 8 n) (m.enc (be 8 n) (tag m header ++ x)) in
      let c = length-be 8 n in
      let d = law.encsize (be 8 n) (tag m header ++ x) (body n x s) in
      let e = length-append (tag m header) x in
      let f = tag-long in
      omega arith

  -- the number and the text of a sealing are the only ones
  pub only : (n k : ℕ) (x y : List ℕ) → IsSealing m header r n x → IsSealing m header r k y → (n ≡ k) × (x ≡ y)
  only n k x y p q =
      (number_is n x p ∙ sym (number_is k y q), append_cancel_left (tag m header) x y (sym (plain-is n x p) ∙ plain-is k y q))

  -- a sealing in lawful sizes is examined and found tagged
  pub sealed : (work text : ℕ) → LawfulSizes header r work text → (n : ℕ) (x : List ℕ) → IsSealing m header r n x → opening m header r work text ≡ Ok (record { number = n; length = length x })
  sealed work text z n x s =
      let l = length-is n x s in
      let lo = s.low in
      let hi = s.high in
      let looked : Examined m.lowest m.highest (length header) r work text n = record {
        fronted = omega arith;
        short_header = z.short_header;
        low = omega arith;
        high = omega arith;
        work_holds = z.work_holds;
        text_holds = z.text_holds;
        number = number_is n x s;
        first = s.first;
        last = s.last;
      } in
      let e = examines m.lowest m.highest m.carried (length header) r work text n looked in
      let t : take 16 (plain m r) ≡ tag m header = ap (take 16) (plain-is n x s) ∙ take_at (tag m header) x 16 tag-long in
      let b : same (take 16 (plain m r)) (tag m header) ≡ true = ap (λ (y : List ℕ). same y (tag m header)) t ∙ is_same (tag m header) in
      let k : length r - 24 ≡ length x = omega arith in
      rw (e, b, k) refl

  module _ (rb : Bytes r) (work text n : ℕ) (x : Examined m.lowest m.highest (length header) r work text n) where
    asked : Admitted m.lowest m.highest (take 8 r) (drop 8 r)
    asked =
        let l = length-drop 8 r in
        let lo = x.low in
        let hi = x.high in
        record {
          tweak_long = length-take-le 8 r x.fronted;
          tweak_bytes = bytes_take 8 r rb;
          low = omega arith;
          high = omega arith;
          bytes = bytes_drop 8 r rb;
        }

    plain-long : length (plain m r) ≡ length r - 8
    plain-long = law.decsize (take 8 r) (drop 8 r) asked ∙ length-drop 8 r

    pub text-long : length (text_of m r) ≡ length r - 24
    text-long = let p = plain-long in length-drop 16 (plain m r) ∙ omega arith

    -- a record that was examined and has the header's tag is a sealing
    pub is-sealing : same (take 16 (plain m r)) (tag m header) ≡ true → IsSealing m header r n (text_of m r)
    is-sealing t =
        let least = law.least in
        let lo = x.low in
        let hi = x.high in
        let k = text-long in
        let tags : take 16 (plain m r) ≡ tag m header = same_is (take 16 (plain m r)) (tag m header) t in
        let parts : tag m header ++ text_of m r ≡ plain m r = ap (λ (y : List ℕ). y ++ text_of m r) (sym tags) ∙ take-append-drop 16 (plain m r) in
        let tweak : be 8 n ≡ take 8 r = ap (be 8) x.number ∙ ap (λ (i : ℕ). be i (number_of r)) (sym (length-take-le 8 r x.fronted)) ∙ be_be_value (take 8 r) (bytes_take 8 r rb) in
        let back : m.enc (take 8 r) (plain m r) ≡ drop 8 r = law.redone (take 8 r) (drop 8 r) asked in
        record {
          first = x.first;
          last = x.last;
          bytes = bytes_drop 16 (plain m r) (law.decbytes (take 8 r) (drop 8 r) asked);
          low = omega arith;
          high = omega arith;
          is = sym (ap₂ (λ (u v : List ℕ). u ++ m.enc u v) tweak parts ∙ ap (λ (v : List ℕ). take 8 r ++ v) back ∙ take-append-drop 8 r);
        }

  -- what opening answers and leaves says exactly which records are sealings
  pub exactly : Bytes r → (work : ℕ) (text text' : List ℕ) (a : Result Opened SealingFault) → a ≡ opening m header r work (length text) → text' ≡ placed a text (text_of m r) → OpensExactly m header r work text text' a
  exactly rb work text text' a ea et = record { accepted = accepted; sealed = λ z n x s. ea ∙ sealed work (length text) z n x s; only = only }
    where
      accepted : (o : Opened) → a ≡ Ok o → LawfulSizes header r work (length text) × IsSealing m header r o.number (take o.length text')
      accepted o e =
          let t = tagged-by r _ _ o (sym ea ∙ e) in
          let x = examined m.lowest m.highest m.carried (length header) r work (length text) o.number t.1 in
          let s = is-sealing rb work (length text) o.number x t.0 in
          let l : length (text_of m r) ≡ o.length = text-long rb work (length text) o.number x ∙ sym t.2 in
          let q : text' ≡ text_of m r ++ drop (length (text_of m r)) text = et ∙ ap (λ (y : Result Opened SealingFault). placed y text (text_of m r)) e in
          let p : take o.length text' ≡ text_of m r = ap (take o.length) q ∙ take_at (text_of m r) (drop (length (text_of m r)) text) o.length l in
          (record { short_header = x.short_header; work_holds = x.work_holds; text_holds = x.text_holds }, subst (IsSealing m header r o.number) (sym p) s)

-- a record that was written under a number of a line is a sealing
module _ (m : Meaning) (law : Lawful m) (header : List ℕ) (hb : Bytes header) where
  pub fitting-seals : (n : ℕ) (text area area' : List ℕ) (k : ℕ) → Bytes text → 1 ≤ n → n ≤ 2 ^ 40 → Ok k ≡ fitting m (length header) (length text) (length area) → area' ≡ record_of m header n text ++ drop (length (record_of m header n text)) area → IsSealing m header (take k area') n text
  fitting-seals n text area area' k tb one top f placed_at =
      let p = unless-ok _ _ _ _ f in
      let q = admitting-ok _ _ _ p.1 in
      let r = unless-ok _ _ _ _ q.1 in
      let w = within m.lowest m.highest (16 + length text) m.carried tt q.0 in
      let sealed : IsSealing m header (record_of m header n text) n text = record {
        first = one;
        last = top;
        bytes = tb;
        low = w.0;
        high = w.1;
        is = refl;
      } in
      let size : length (record_of m header n text) ≡ k = length-is m law header (record_of m header n text) hb n text sealed ∙ add_comm 24 (length text) ∙ sym (same-value k (length text + 24) r.1) in
      let front : take k area' ≡ record_of m header n text = ap (take k) placed_at ∙ take_at (record_of m header n text) (drop (length (record_of m header n text)) area) k size in
      subst (λ (y : List ℕ). IsSealing m header y n text) (sym front) sealed

  -- what plain seal writes
  pub seals : (n : ℕ) (text area area' : List ℕ) (a : Result ℕ SealingFault) → Bytes text → a ≡ sealing m n (length header) (length text) (length area) → area' ≡ placed a area (record_of m header n text) → (k : ℕ) → a ≡ Ok k → IsSealing m header (take k area') n text
  seals n text area area' a tb ea et k e =
      let f = numbered-ok n (fitting m (length header) (length text) (length area)) k (sym e ∙ ea) in
      fitting-seals n text area area' k tb f.1 f.2 f.0 (et ∙ ap (λ (y : Result ℕ SealingFault). placed y area (record_of m header n text)) e)

-- the number that opening answers is the one that was examined
pub opened-number : (m : Meaning) (header r : List ℕ) (work text : ℕ) (o : Opened) (n : ℕ) → Ok o ≡ opening m header r work text → Ok n ≡ examining m.lowest m.highest m.carried (length header) r work text → o.number ≡ n
opened-number m header r work text o n e x =
    let t = tagged-by r (same (take 16 (plain m r)) (tag m header)) (examining m.lowest m.highest m.carried (length header) r work text) o (sym e) in
    same-value o.number n (t.1 ∙ sym x)
