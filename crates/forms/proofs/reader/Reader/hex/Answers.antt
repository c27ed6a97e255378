use Rattle.std.proofs.Common.{ℕ, ◌-◌, List, length, Ok, sym, ap, ◌∙◌, arith}
use Rattle.std.proofs.lemmas.List.{length-take-le}
use Rattle.forms.proofs.Rests.{one-shorter, handed, went, kept}
use Rattle.forms.proofs.Turns.{hex-first, hex-none, hex-more, hex-stuck, hex-closed, dash-closed, dash-stuck, hex-taken, unhexed-one, byte-shorter}
use Rattle.forms.proofs.reader.Reader.hex.Goals as goal

pub returns-in_err-eat : goal.returns-in_err-eat
returns-in_err-eat c = handed _ _ _ _ _ c.from_residual.ensures.1 (dash-stuck _ _ _ _ (went _ _ _ (sym c.if-is_ok.ensures.value) c.eat.ensures) c.in_err-eat.ensures)

pub slice_bounds-result-end : goal.slice_bounds-result-end
slice_bounds-result-end c =
    let h = one-shorter _ _ _ _ (went _ _ _ (sym c.if-is_ok.ensures.value) c.eat.ensures) in
    omega (arith, length-take-le 1 c.args.self.now.rest.now (omega arith))

pub returns-then-is_ok : goal.returns-then-is_ok
returns-then-is_ok c = ap (λ (l : List ℕ). Ok (l, c.eat-then-is_ok.new.self.rest.now)) (unhexed-one c.args.self.now.rest.now) ∙ dash-closed _ _ _ _ (went _ _ _ (sym c.if-is_ok.ensures.value) c.eat.ensures) c.in_ok-eat.ensures

pub returns-in_err-byte : goal.returns-in_err-byte
returns-in_err-byte c = handed _ _ _ _ _ c.from_residual-in_err-byte.ensures.1 (hex-none _ _ _ (kept _ _ _ (sym c.if-is_ok.ensures.value) c.eat.ensures) _ c.in_err-byte.ensures)

pub loop-self-init : goal.loop-self-init
loop-self-init c = (_, hex-first _ _ _ (kept _ _ _ (sym c.if-is_ok.ensures.value) c.eat.ensures) _ _ c.in_ok-byte.ensures)

pub loop-self-smaller : goal.loop-self-smaller
loop-self-smaller c = byte-shorter _ _ _ _ _ (kept _ _ _ c.loop-self-test.ensures.negation c.eat-in-loop-self.ensures) c.in_ok-byte-2.ensures

pub loop-self-preserved : goal.loop-self-preserved
loop-self-preserved c = (_, c.loop-self.invariant.1 ∙ hex-more _ _ _ _ (kept _ _ _ c.loop-self-test.ensures.negation c.eat-in-loop-self.ensures) _ _ c.in_ok-byte-2.ensures)

pub returns-in_err-byte-2 : goal.returns-in_err-byte-2
returns-in_err-byte-2 c = handed _ _ _ _ _ c.from_residual-in_err-byte-2.ensures.1 (hex-stuck _ _ _ _ (kept _ _ _ c.loop-self-test.ensures.negation c.eat-in-loop-self.ensures) _ c.in_err-byte-2.ensures ∙ sym c.loop-self.invariant.1)

pub overflow_sub-end : goal.overflow_sub-end
overflow_sub-end c =
    let e = hex-closed _ _ _ _ (went _ _ _ c.loop-self-test.ensures.negation c.eat-in-loop-self.ensures) ∙ sym c.loop-self.invariant.1 in
    omega (arith, (hex-taken _ c.requires _ _ _ e).0)

pub overflow_sub-end-2 : goal.overflow_sub-end-2
overflow_sub-end-2 c =
    let e = hex-closed _ _ _ _ (went _ _ _ c.loop-self-test.ensures.negation c.eat-in-loop-self.ensures) ∙ sym c.loop-self.invariant.1 in
    omega (arith, (hex-taken _ c.requires _ _ _ e).0)

pub returns : goal.returns
returns c =
    let s = c.args.self.now.rest.now in
    let t = c.eat-in-loop-self.new.self.rest.now in
    let e = hex-closed _ _ _ _ (went _ _ _ c.loop-self-test.ensures.negation c.eat-in-loop-self.ensures) ∙ sym c.loop-self.invariant.1 in
    ap (λ (l : List ℕ). Ok (l, t)) ((hex-taken _ c.requires _ _ _ e).1 (length s - length t - 1) (omega arith)) ∙ e
