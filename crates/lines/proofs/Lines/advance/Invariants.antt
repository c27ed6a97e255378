use Rattle.std.proofs.Common.{◌≡◌}
use Rattle.lines.specs.Kept.{line_of, Kept}
use Rattle.lines.proofs.Lines.advance.Given as goal

abbrev pub invariant-loop : goal.invariant-loop
invariant-loop g l = (l.self.most ≡ l.initial.self.most) × Kept l.self.most (line_of l.self)
