use Rattle.std.proofs.Common.{◌≡◌, ℕ, ◌-◌, ◌*◌, ◌%◌, ◌^◌, ◌≤◌, sym, subst, arith}
use lib.Bits.{bit_or}
use Rattle.std.proofs.lemmas.Nat.{one_shl}
use Rattle.std.specs.Int.{bit_at}
use Rattle.ends.proofs.Marking.{Shifted, Joins, at, shifted, none_left, ahead, behind, ahead-keeps, behind-keeps, joins-accepts}
use Rattle.ends.proofs.window.Window.mark.Goals as goal
use Rattle.ends.proofs.window.Window.mark.Goals.{then-ahead-lt64, else-ahead-lt64}

pub invariant_of-self : goal.invariant_of-self
invariant_of-self c =
    let s = c.args.self.now.accepted in
    let n = c.args.number in
    let z = c.if-ahead-lt64.shifted in
    let sh : Shifted s.marks (n - s.highest) z =
    elim c.if-ahead-lt64.branch [
      | then-ahead-lt64 w ↦ subst (Shifted s.marks (n - s.highest)) (sym w.shifted-is) (shifted s.marks (n - s.highest))
      | else-ahead-lt64 w ↦ subst (Shifted s.marks (n - s.highest)) (sym w.shifted-is) (none_left s.marks (n - s.highest) w.if-ahead-lt64.false)
    ] in
    let k = ahead-keeps s.highest s.marks n z c.if-number-highest.true sh c.args.self.now.above in
    record { topped = λ one. k.0; above = k.1 }

pub invariant_of-self-else-number-highest : goal.invariant_of-self-else-number-highest
invariant_of-self-else-number-highest c =
    let s = c.args.self.now.accepted in
    let n = c.args.number in
    let e : (1 * 2 ^ (s.highest - n)) % 2 ^ 64 ≡ 2 ^ (s.highest - n) = one_shl (s.highest - n) 64 (omega arith) in
    let k = behind-keeps s.highest s.marks n c.requires.first c.if-number-highest.false (c.args.self.now.topped (omega arith)) c.args.self.now.above in
    let Topped : ℕ → Type 0 = λ x. 1 ≤ s.highest → bit_or s.marks x % 2 ≡ 1 in
    let Above : ℕ → Type 0 = λ x. (i : ℕ) → s.highest ≤ i → bit_at (bit_or s.marks x) i ≡ 0 in
    record { topped = subst Topped (sym e) (λ one. k.0); above = subst Above (sym e) k.1 }

pub returns-after-ahead-lt64 : goal.returns-after-ahead-lt64
returns-after-ahead-lt64 c =
    let s = c.args.self.now.accepted in
    let n = c.args.number in
    let z = c.if-ahead-lt64.shifted in
    let sh : Shifted s.marks (n - s.highest) z =
    elim c.if-ahead-lt64.branch [
      | then-ahead-lt64 w ↦ subst (Shifted s.marks (n - s.highest)) (sym w.shifted-is) (shifted s.marks (n - s.highest))
      | else-ahead-lt64 w ↦ subst (Shifted s.marks (n - s.highest)) (sym w.shifted-is) (none_left s.marks (n - s.highest) w.if-ahead-lt64.false)
    ] in
    joins-accepts s n (at n (bit_or z 1)) (ahead s.highest s.marks n z c.if-number-highest.true sh)

pub returns-else-number-highest : goal.returns-else-number-highest
returns-else-number-highest c =
    let s = c.args.self.now.accepted in
    let n = c.args.number in
    let e : (1 * 2 ^ (s.highest - n)) % 2 ^ 64 ≡ 2 ^ (s.highest - n) = one_shl (s.highest - n) 64 (omega arith) in
    let P : ℕ → Type 0 = λ x. Joins s n (at s.highest (bit_or s.marks x)) in
    joins-accepts s n _ (subst P (sym e) (behind s.highest s.marks n c.if-number-highest.false c.requires.near))
