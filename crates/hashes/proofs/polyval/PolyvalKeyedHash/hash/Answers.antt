use Rattle.std.proofs.Common.{◌≡◌, ℕ, ◌*◌, ◌%◌, ◌^◌, List, [], ◌++◌, length, sym, ap, ◌∙◌, subst, arith, length-append}
use Rattle.octets.specs.Strings.{xor, le}
use Rattle.hashes.specs.ValuesLemmas.{padded-none, padded-part, polyval-end}
use Rattle.hashes.specs.Absorbed.{Taken, Absorbed}
use Rattle.hashes.specs.Polyval.{dot_block, padded}
use Rattle.hashes.proofs.polyval.PolyvalKeyedHash.hash.Goals as goal
use Rattle.hashes.proofs.polyval.PolyvalKeyedHash.hash.Goals.{then-chain-gt0, else-chain-gt0}

pub returns : goal.returns
returns c =
    let key : List ℕ = c.args.self.now.key.bytes in
    let f = dot_block key in
    let first : List ℕ = c.args.first.now in
    let second : List ℕ = c.args.second.now in
    let all : List ℕ = first ++ second in
    let chain = c.absorb-chain.result in
    let sum : List ℕ = c.if-chain-gt0.sum in
    let so : Absorbed f all chain.sum chain.fill = c.absorb-chain.ensures first (c.absorb.ensures [] (c.new.ensures f)) in
    let Whole : List ℕ → Type 0 = λ s. Taken f (padded all) s 0 in
    let whole : Whole sum =
    elim c.if-chain-gt0.branch [
      | then-chain-gt0 w ↦ subst Whole (sym (w.sum-is ∙ w.apply-sum.ensures)) (padded-part f all chain.sum chain.fill so w.if-chain-gt0.true chain.within)
      | else-chain-gt0 w ↦ subst Whole (sym w.sum-is) (padded-none f all chain.sum chain.fill so (omega (arith, w.if-chain-gt0.false)))
    ] in
    let bits : c.le_bytes.result ≡ le 8 (8 * length all % 2 ^ 64) = c.le_bytes.ensures ∙ ap (le 8) (omega (arith, length-append first second)) in
    c.apply.ensures ∙ ap f (c.add_into.ensures ∙ ap (xor sum) bits) ∙ polyval-end key all sum whole
