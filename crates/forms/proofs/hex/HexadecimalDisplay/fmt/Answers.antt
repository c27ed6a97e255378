use Rattle.std.proofs.Common.{sym, arith, get_or, rules, false, [], ◌^◌, ◌-◌}
use Rattle.std.proofs.lemmas.Bool.{eqb-true, eqb-false}
use Rattle.std.specs.Fmt.{HasWritten, padded_integral, format_spec, digits}
use Rattle.forms.proofs.Written.{hex-empty, hex-none, hex-more, hex-all}
use Rattle.forms.proofs.hex.HexadecimalDisplay.fmt.Goals as goal

pub loop-b-init : goal.loop-b-init
loop-b-init g c plain = hex-none g.W.Write.write_str_gives _ plain

pub loop-b-preserved : goal.loop-b-preserved
loop-b-preserved g c plain =
    let b = get_or c.args.self.now.0.now c.loop-b.b-index 0 in
    let before = c.loop-b.invariant plain in
    let wrote : HasWritten g.W.Write.write_str_gives c.loop-b.f (padded_integral (format_spec 32 0 4 2 (2 ^ 64 - 1)) false [] (digits 16 false b)) c.write.new.self = search rules in
    hex-more g.W.Write.write_str_gives _ _ _ c.args.self.now.0.now c.loop-b.b-index c.loop-b-test.true (omega arith) before wrote

pub returns-clause-writes : goal.returns-clause-writes
returns-clause-writes g c plain ok = hex-all g.W.Write.write_str_gives _ _ c.args.self.now.0.now _ c.loop-b-test.false (omega (arith, eqb-false _ _ (sym c.if-is_empty.ensures))) (c.loop-b.invariant plain)

pub returns-then-is_empty-clause-writes : goal.returns-then-is_empty-clause-writes
returns-then-is_empty-clause-writes g c plain ok = hex-empty g.W.Write.write_str_gives _ _ c.args.self.now.0.now (eqb-true _ _ (sym c.if-is_empty.ensures)) (c.write_str.ensures.writes plain ok)
