use Rattle.std.proofs.Common.{◌≡◌, drop}
use Rattle.forms.specs.Scans.{literal}
use Rattle.forms.proofs.reader.Reader.literal.Given as goal

abbrev pub invariant-loop-b : goal.invariant-loop-b
invariant-loop-b l = literal l.text l.initial.self.rest.now ≡ literal (drop l.b-index l.text) l.self.rest.now
