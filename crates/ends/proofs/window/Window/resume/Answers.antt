use Rattle.std.proofs.Common.{◌≡◌, ◌/◌, ◌%◌, ◌^◌, ◌<◌, ◌≤◌, arith}
use Rattle.ends.proofs.Resuming.{none_below}
use Rattle.ends.proofs.window.Window.resume.Goals as goal
use Rattle.ends.proofs.window.Window.resume.Goals.{else-highest-ge1-via-then-highest-ge1+else-marks-eq0, else-highest-ge1-via-else-highest-ge1, else-highest-lt64-via-then-highest-lt64+else-marks-highest-ne0, else-highest-lt64-via-else-highest-lt64}

pub invariant_of-result : goal.invariant_of-result
invariant_of-result c =
    let top = c.args.accepted.highest in
    let w = c.args.accepted.marks in
    let odd : (1 ≤ top → w % 2 ≡ 1) = elim c.else-highest-ge1.branch [
      | else-highest-ge1-via-then-highest-ge1+else-marks-eq0 x ↦ λ one. let f = x.if-marks-eq0.false in omega arith
      | else-highest-ge1-via-else-highest-ge1 x ↦ λ one. omega arith
    ] in
    let below : (top < 64 → w / 2 ^ top ≡ 0) = elim c.else-highest-lt64.branch [
      | else-highest-lt64-via-then-highest-lt64+else-marks-highest-ne0 x ↦ λ l. x.if-marks-highest-ne0.false
      | else-highest-lt64-via-else-highest-lt64 x ↦ λ l. omega arith
    ] in
    record { topped = odd; above = none_below top w (omega arith) below }
