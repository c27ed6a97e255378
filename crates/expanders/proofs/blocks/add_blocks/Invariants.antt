use Rattle.std.proofs.Common.{◌≡◌, ℕ, ◌+◌, ◌-◌, ◌*◌, ◌≤◌, length, take, drop}
use Rattle.octets.specs.Strings.{xor}
use Rattle.expanders.specs.Sequences.{blocks}
use Rattle.expanders.proofs.blocks.add_blocks.Given as goal

abbrev pub invariant-loop-j : goal.invariant-loop-j
invariant-loop-j g l = (n : ℕ) → l.from + length l.initial.stretch ≤ g.row.N * n → l.stretch ≡ xor l.initial.stretch (take (g.row.N * l.j - l.from) (drop l.from (blocks (g.B.Blocks.block l.sequence) 0 n)))
