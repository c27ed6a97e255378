-- What a line of either pile means.
use Rattle.std.proofs.Common.{◌≡◌, ap}
use Rattle.boards.specs.Lines.{meant_by}
use Rattle.boards.specs.declared.line.AnyLine.{AnyLine}

pub same_line : (a x : AnyLine) → a ≡ x → meant_by a ≡ meant_by x
same_line a x e = ap meant_by e
