use Rattle.std.proofs.Common.{◌≡◌, ℕ, ◌<◌, ◌≤◌, length, get_or, vec_items, sym, ap, ◌∙◌, arith}
use Rattle.lines.proofs.Keeping.{kept_more, before-newline, no-newline}
use Rattle.lines.proofs.take.Goals as goal
use Rattle.lines.proofs.take.Goals.{in-Some, in-None}

pub returns : goal.returns
returns g c =
    let held = c.in-Ok.held.now in
    let end = c.match-find_newline.end.0 in
    let before : (end ≤ length held) × ((k : ℕ) → k < end → get_or held k 0 ≡ 10 → ⊥) = elim c.match-find_newline.branch [
      | in-Some w ↦
          let is = before-newline held w.in-Some.end (sym c.find_newline.ensures ∙ w.in-Some.is) in
          let at = ap (λ p. p.0) w.end-is in
          (omega (arith, is.0, at), λ k l. is.1 k (omega (arith, at, l)))
      | in-None w ↦
          let at = ap (λ p. p.0) w.end-is in
          (omega (arith, at), λ k l. no-newline held (sym c.find_newline.ensures ∙ w.in-None.is) k (omega (arith, at, l)))
    ] in
    kept_more c.args.most (vec_items c.args.line.now) held _ c.min-kept.result end c.saturating_sub.result _
    c.requires before.0
    (let a = c.saturating_sub.ensures in let b = c.len.ensures in let d = c.args.line.now.ok.0 in omega arith) c.min-kept.ensures before.1 c.extend_from_slice.ensures.items
