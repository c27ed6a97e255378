use Rattle.std.proofs.Common.{◌≡◌, ◌-◌, ◌^◌, ◌<◌}
use Rattle.forms.specs.Scans.{run, counting, some}
use Rattle.forms.proofs.reader.Reader.number.Given as goal

abbrev pub invariant-loop-count : goal.invariant-loop-count
invariant-loop-count l = (l.value < 10 ^ l._count) × (run counting (some 12 l.initial.value) l.initial.self.rest.now ≡ run counting (some (13 - l._count) l.value) l.self.rest.now)
