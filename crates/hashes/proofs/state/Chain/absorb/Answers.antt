use Rattle.std.proofs.Common.{◌≡◌, ℕ, ◌<◌, ◌≤◌, List, [], ◌++◌, length, sym, refl, ap, ◌∙◌, subst, append_assoc, append-nil, arith}
use Rattle.std.proofs.lemmas.Bool.Decides.{nat_tests}
use Rattle.std.proofs.lemmas.List.{drop_all}
use Rattle.hashes.specs.Chaining.{absorbed-piece}
use Rattle.hashes.specs.Absorbed.{Absorbed}
use Rattle.hashes.proofs.state.Chain.absorb.Goals as goal

pub loop-rest-init : goal.loop-rest-init
loop-rest-init g c =
    ([], refl, λ old so. rw (append-nil old) so)

pub loop-rest-preserved : goal.loop-rest-preserved
loop-rest-preserved g c =
    let f = g.F.BlockFunction.image c.args.f.now in
    let done = c.loop-rest.invariant.0 in
    let p = c.split_at.result.0.now in
    let left : 0 < length c.loop-rest.rest.now = grind (arith, nat_tests, c.is_empty.ensures) in
    let some : 0 < length p = omega (arith, c.split_at.ensures.front_len, c.opened-ready.ensures.room) in
    let ready = c.opened-ready.result in
    let chain = c.add-chain.result in (
      done ++ p,
      append_assoc done p c.split_at.result.1.now ∙ ap (λ (xs : List ℕ). done ++ xs) (sym c.split_at.ensures.by_index.0) ∙ c.loop-rest.invariant.1,
      λ old so.
          absorbed-piece f old done p ready.sum chain.sum ready.fill chain.fill
          (c.opened-ready.ensures.same (old ++ done) (c.loop-rest.invariant.2 old so).taken) some c.add-chain.ensures.sum c.add-chain.ensures.fill,
    )

pub returns : goal.returns
returns g c old so =
    let f = g.F.BlockFunction.image c.args.f.now in
    let done = c.loop-rest.invariant.0 in
    let rest = c.loop-rest.rest.now in
    let none : length rest ≤ 0 = grind (arith, nat_tests, c.is_empty.ensures) in
    let all : done ≡ c.args.bytes.now = sym (append-nil done) ∙ ap (λ (xs : List ℕ). done ++ xs) (sym (drop_all 0 rest none)) ∙ c.loop-rest.invariant.1 in
    subst (λ (xs : List ℕ). Absorbed f (old ++ xs) c.loop-rest.chain.sum c.loop-rest.chain.fill) all (c.loop-rest.invariant.2 old so)
