use Rattle.std.proofs.Common.{◌≡◌, ◌-◌, [], length, take}
use Rattle.forms.specs.Scans.{bytes}
use Rattle.forms.proofs.reader.Reader.name.Given as goal

abbrev pub invariant-loop-b : goal.invariant-loop-b
invariant-loop-b l = (length l.b-items ≡ 8) × (bytes 8 [] l.initial.self.rest.now ≡ bytes (8 - l.b-index) (take l.b-index l.b-items) l.self.rest.now)
