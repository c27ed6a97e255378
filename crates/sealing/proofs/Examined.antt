-- What a record that was examined is like.
use Rattle.std.proofs.Common.{◌≡◌, ℕ, ◌+◌, ◌-◌, ◌^◌, ◌≤◌, Bool, true, false, cond, List, length, Ok, Err, Option, Result, refl, arith}
use Rattle.std.proofs.lemmas.Bool.{ltb-false, le-ltb}
use Rattle.ciphers.proofs.Verdicts.{within, admitted}
use Rattle.ciphers.specs.declared.fault.CipherFault.{CipherFault}
use Rattle.expanders.specs.declared.fault.PastReach.{PastReach}
use Rattle.sealing.specs.Calls.{admitting, then_numbered, number_of, examining}
use Rattle.sealing.specs.declared.fault.SealingFault.{SealingFault}

pub record Examined (lowest highest header : ℕ) (r : List ℕ) (work text n : ℕ) : Type 0 where
  pub fronted : 8 ≤ length r
  pub short_header : header ≤ 256
  pub low : lowest ≤ length r - 8
  pub high : length r - 8 ≤ highest
  pub work_holds : length r ≤ work + 8
  pub text_holds : length r ≤ text + 24
  pub number : n ≡ number_of r
  pub first : 1 ≤ n
  pub last : n ≤ 2 ^ 40

-- an answer that is not refused passed each test
pub unless-ok : {T E : Type 0} (b : Bool) (f : E) (r : Result T E) (x : T) → Ok x ≡ cond b (Err f) r → (b ≡ false) × (Ok x ≡ r)
unless-ok true f r x e = absurd cc
unless-ok false f r x e = (refl, e)

pub admitting-ok : {T : Type 0} (v : Result (Unit {0}) CipherFault) (r : Result T SealingFault) (x : T) → Ok x ≡ admitting v r → (Ok tt ≡ v) × (Ok x ≡ r)
admitting-ok (Ok u) r x e = (refl, e)
admitting-ok (Err f) r x e = absurd cc

pub numbered-ok : (n : ℕ) (v : Result ℕ SealingFault) (k : ℕ) → Ok k ≡ then_numbered n v → (Ok k ≡ v) × (1 ≤ n) × (n ≤ 2 ^ 40)
numbered-ok n (Ok j) k e =
    let u = unless-ok _ _ _ _ e in
    let v = unless-ok _ _ _ _ u.1 in
    (v.1, ltb-false n 1 u.0, ltb-false (2 ^ 40) n v.0)
numbered-ok n (Err f) k e = absurd cc

pub same-value : (m n : ℕ) → ◌≡◌ {A = Result ℕ SealingFault} (Ok m) (Ok n) → m ≡ n
same-value m n e = cc

pub examined : (lowest highest : ℕ) (carried : Option PastReach) (header : ℕ) (r : List ℕ) (work text n : ℕ) → Ok n ≡ examining lowest highest carried header r work text → Examined lowest highest header r work text n
examined lowest highest carried header r work text n e =
    let a = unless-ok _ _ _ _ e in
    let b = unless-ok _ _ _ _ a.1 in
    let c = admitting-ok _ _ _ b.1 in
    let d = unless-ok _ _ _ _ c.1 in
    let f = unless-ok _ _ _ _ d.1 in
    let g = unless-ok _ _ _ _ f.1 in
    let h = unless-ok _ _ _ _ g.1 in
    let w = within lowest highest (length r - 8) carried tt c.0 in
    let i : n ≡ number_of r = same-value n (number_of r) h.1 in
    let size : 8 ≤ length r = ltb-false (length r) 8 a.0 in
    let held : length r - 8 ≤ work = ltb-false work (length r - 8) d.0 in
    let room : length r - 24 ≤ text = ltb-false text (length r - 24) f.0 in
    let one : 1 ≤ number_of r = ltb-false (number_of r) 1 g.0 in
    let top : number_of r ≤ 2 ^ 40 = ltb-false (2 ^ 40) (number_of r) h.0 in
    record {
      fronted = size;
      short_header = ltb-false 256 header b.0;
      low = w.0;
      high = w.1;
      work_holds = omega arith;
      text_holds = omega arith;
      number = i;
      first = omega arith;
      last = omega arith;
    }

-- a record that was examined has room for a number and a tag
pub tag_fits : (lowest highest : ℕ) (carried : Option PastReach) (header : ℕ) (r : List ℕ) (work text n : ℕ) → 16 ≤ lowest → Ok n ≡ examining lowest highest carried header r work text → 24 ≤ length r
tag_fits lowest highest carried header r work text n least e =
    let x = examined lowest highest carried header r work text n e in
    omega (arith, x.low, x.fronted)

-- a record that is like this is examined so
pub examines : (lowest highest : ℕ) (carried : Option PastReach) (header : ℕ) (r : List ℕ) (work text n : ℕ) → Examined lowest highest header r work text n → examining lowest highest carried header r work text ≡ Ok n
examines lowest highest carried header r work text n x =
    let a = le-ltb (length r) 8 x.fronted in
    let b = le-ltb 256 header x.short_header in
    let c = admitted lowest highest (length r - 8) carried x.low x.high in
    let d = le-ltb work (length r - 8) (omega (arith, x.work_holds)) in
    let f = le-ltb text (length r - 24) (omega (arith, x.text_holds)) in
    let i = x.number in
    let g = le-ltb (number_of r) 1 (omega (arith, x.first)) in
    let h = le-ltb (2 ^ 40) (number_of r) (omega (arith, x.last)) in
    rw (a, b, c, d, f, g, h, i) refl
