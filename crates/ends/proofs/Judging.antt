-- A number is judged once the same way.
use Rattle.std.proofs.Common.{◌≡◌, ℕ, Ok, Err, Result, sym, ap, ◌∙◌}
use Rattle.ends.specs.Window.{judging}
use Rattle.ends.specs.declared.fault.WindowFault.{WindowFault}
use Rattle.ends.specs.declared.window.Marks.{Marks}

pub judged-once : (w : Marks) (n k : ℕ) (x : Unit {0}) (f : WindowFault) → n ≡ k → Ok x ≡ judging w k → Err f ≡ judging w n → ⊥
judged-once w n k x f e a b =
    let c : ◌≡◌ {A = Result (Unit {0}) WindowFault} (Ok x) (Err f) = a ∙ ap (judging w) (sym e) ∙ sym b in
    cc
