use Rattle.std.proofs.Common.{◌≡◌, ℕ, false, eqb, List, [], ◌∷◌, length, get_or, ap, arith, below_more}
use lib.Bits.{xor_self}
use Rattle.octets.proofs.Same.{same_by, or-none, xor-none}
use Rattle.octets.proofs.equal.Goals as goal
use Rattle.std.proofs.lemmas.List.{ext_get_or, length-append}
use Rattle.std.proofs.lemmas.Bool.{eqb-true, eq-eqb, false≢true}
use Rattle.std.proofs.lemmas.Slice.Zip.{zip_turn, zip_end}

pub returns-then-a-b : goal.returns-then-a-b
returns-then-a-b c = same_by false c.args.a.now c.args.b.now (λ e. absurd (false≢true e)) (λ e. absurd (c.if-a-b.true (ap length e)))

pub loop-x-preserved : goal.loop-x-preserved
loop-x-preserved c =
    let n = length c.loop-x.yielded in
    let t = zip_turn c.args.a.now c.args.b.now _ _ _ c.next.new.self _ (cc) (cc) c.loop-x.yielded_by _ c.in-Some.is c.next.ensures.steps in
    let x = t.2 0 in
    let y = t.3 0 in
    let l = length-append c.loop-x.yielded ((c.in-Some.x, c.in-Some.y) ∷ []) in (
      (λ e k h. let p = or-none c.loop-x.differ _ e in let q : get_or c.args.a.now n 0 ≡ get_or c.args.b.now n 0 = cc (xor-none c.in-Some.x.now c.in-Some.y.now p.1) in below_more (λ k. get_or c.args.a.now k 0 ≡ get_or c.args.b.now k 0) n (c.loop-x.invariant.0 p.0) q k (omega arith)),
      (λ f. let z : c.loop-x.differ ≡ 0 = c.loop-x.invariant.1 (λ k h. f k (omega arith)) in let h : get_or c.args.a.now n 0 ≡ get_or c.args.b.now n 0 = f n (omega arith) in rw (z, x, y, h) (xor_self (get_or c.args.b.now n 0))),
    )

pub returns : goal.returns
returns c =
    let n = zip_end c.args.a.now c.args.b.now _ _ _ c.next.new.self _ (cc) (cc) c.loop-x.yielded_by c.in-None.is c.next.ensures.steps in
    same_by (eqb c.loop-x.differ 0) c.args.a.now c.args.b.now
    (λ e. ext_get_or 0 _ _ (omega arith) (λ k h. c.loop-x.invariant.0 (eqb-true _ 0 e) k (omega arith)))
    (λ e. eq-eqb _ 0 (c.loop-x.invariant.1 (λ k h. ap (λ (x : List ℕ). get_or x k 0) e)))
