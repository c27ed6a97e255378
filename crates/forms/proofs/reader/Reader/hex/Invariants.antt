use Rattle.std.proofs.Common.{◌≡◌, ℕ, List, length}
use Rattle.forms.specs.Scans.{run, hexing, even, hex}
use Rattle.forms.proofs.reader.Reader.hex.Given as goal

abbrev pub invariant-loop-self : goal.invariant-loop-self
invariant-loop-self l = (bs : List ℕ) × (hex l.close l.line ≡ run (hexing l.close) (even bs) l.self.rest.now)

abbrev pub decreases-loop-self : goal.decreases-loop-self
decreases-loop-self l = length l.self.rest.now
