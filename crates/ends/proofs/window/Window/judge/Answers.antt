use Rattle.std.proofs.Common.{◌-◌, true, false, sym, ◌∙◌, arith}
use Rattle.std.proofs.lemmas.Nat.Bits.{shr_and_one}
use Rattle.std.proofs.lemmas.Bool.{eq-eqb, ne_eqb}
use Rattle.ends.proofs.Marking.{judged}
use Rattle.ends.proofs.window.Window.judge.Goals as goal

pub returns-then-marks-behind-eq1 : goal.returns-then-marks-behind-eq1
returns-then-marks-behind-eq1 c =
    let s = c.args.self.now.accepted in
    let low = shr_and_one s.marks (s.highest - c.args.number) in
    sym (judged s c.args.number (omega arith) (omega arith) (omega arith) true (eq-eqb _ 1 (sym low ∙ c.if-marks-behind-eq1.true)))

pub returns : goal.returns
returns c =
    let s = c.args.self.now.accepted in
    let low = shr_and_one s.marks (s.highest - c.args.number) in
    sym (judged s c.args.number (omega arith) (omega arith) (omega arith) false (ne_eqb _ 1 (λ e. c.if-marks-behind-eq1.false (low ∙ e))))
