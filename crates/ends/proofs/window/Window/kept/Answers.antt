use Rattle.std.proofs.Common.{refl}
use Rattle.ends.proofs.Resuming.{possible-of}
use Rattle.ends.proofs.window.Window.kept.Goals as goal

pub returns : goal.returns
returns c =
    let s = c.args.self in
    record { answer = refl; lasting = possible-of s.accepted.highest s.accepted.marks s.topped s.above }
