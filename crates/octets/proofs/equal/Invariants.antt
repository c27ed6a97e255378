use Rattle.std.proofs.Common.{◌≡◌, ℕ, ◌<◌, get_or, length}
use Rattle.octets.proofs.equal.Given as goal

abbrev pub invariant-loop-x : goal.invariant-loop-x
invariant-loop-x l =
    (l.differ ≡ 0 → (k : ℕ) → k < length l.yielded → get_or l.a k 0 ≡ get_or l.b k 0)
    × (((k : ℕ) → k < length l.yielded → get_or l.a k 0 ≡ get_or l.b k 0) → l.differ ≡ 0)
