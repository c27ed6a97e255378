use Rattle.std.proofs.Common.{◌≡◌, ℕ, ◌+◌, ◌-◌, ◌*◌, ◌/◌, ◌<◌, length, take, drop, sym, ap, ◌∙◌, mul-suc, add-one, arith}
use Rattle.std.proofs.Math.Nat.{mul-le-mul_left}
use Rattle.std.proofs.lemmas.Bool.Decides.{nat_tests}
use Rattle.std.proofs.lemmas.List.{take_rest}
use Rattle.octets.proofs.Xor.{xor-nil, xor-take}
use Rattle.octets.specs.Strings.{xor}
use Rattle.expanders.proofs.Places.{touched, reached}
use Rattle.expanders.specs.Pieces.{piece-more}
use Rattle.expanders.specs.Sequences.{blocks}
use Rattle.expanders.proofs.blocks.add_blocks.Goals as goal

pub returns-then-is_empty : goal.returns-then-is_empty
returns-then-is_empty g c =
    let s = c.args.stretch.now in
    let z : length s ≡ 0 = grind (arith, nat_tests, c.if-is_empty.ensures) in
    λ n h. sym (xor-nil s) ∙ xor-take s _ 0 (omega arith)

pub loop-j-init : goal.loop-j-init
loop-j-init g c =
    let z : g.row.N * (c.args.from / g.row.N) - c.args.from ≡ 0 = omega arith in
    λ n h. rw z (sym (xor-nil c.args.stretch.now))

pub loop-j-preserved : goal.loop-j-preserved
loop-j-preserved g c =
    let N = g.row.N in
    let f = g.B.Blocks.block c.args.sequence.now in
    let from = c.args.from in
    let j = c.loop-j.j in
    let s = c.args.stretch.now in
    let low = mul-le-mul_left N c.loop-j.auto.j in
    let high = touched N (from + length s) j c.requires.some (omega arith) in
    let next : N * (j + 1) ≡ N * j + N = rw add-one (mul-suc N j) in
    let some : 0 < length s = grind (arith, nat_tests, c.if-is_empty.ensures) in
    let added = rw (c.saturating_sub.ensures, c.saturating_sub-skip.ensures, take_rest c.block-block.result (from - N * j), c.block-block.ensures) at c.add_at.ensures in
    λ n h.
    added
    ∙ piece-more N f (g.met.B.Blocks.long c.args.sequence.now) n from (N * j - from) j (from - N * j) (omega arith) (omega arith)
    s c.loop-j.stretch (omega arith) h (c.loop-j.invariant n h)
    ∙ ap (λ (m : ℕ). xor s (take m (drop from (blocks f 0 n)))) (omega arith)

pub returns : goal.returns
returns g c =
    let r = reached g.row.N (c.args.from + length c.args.stretch.now) c.loop-j.j c.requires.some (omega arith) in
    λ n h. c.loop-j.invariant n h ∙ xor-take c.args.stretch.now _ (g.row.N * c.loop-j.j - c.args.from) (omega arith)
