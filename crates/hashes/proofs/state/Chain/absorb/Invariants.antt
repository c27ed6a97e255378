use Rattle.std.proofs.Common.{◌≡◌, ℕ, List, ◌++◌, length}
use Rattle.hashes.specs.Absorbed.{Absorbed}
use Rattle.hashes.proofs.state.Chain.absorb.Given as goal

abbrev pub invariant-loop-rest : goal.invariant-loop-rest
invariant-loop-rest g l =
    (done : List ℕ) × (done ++ l.rest ≡ l.initial.rest)
    × ((old : List ℕ) → Absorbed (g.F.BlockFunction.image l.f) old l.initial.chain.sum l.initial.chain.fill
    → Absorbed (g.F.BlockFunction.image l.f) (old ++ done) l.chain.sum l.chain.fill)

abbrev pub decreases-loop-rest : goal.decreases-loop-rest
decreases-loop-rest g l = length l.rest
