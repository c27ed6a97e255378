use Rattle.std.proofs.Common.{◌≡◌, ◌+◌, ◌-◌, ◌/◌, length, drop, sym, ◌∙◌, arith, length-take, length-drop}
use Rattle.aes.specs.Cipher.{rounds, mix_columns, shift_rows, sub_bytes}
use Rattle.aes.specs.Key.{key_of}
use Rattle.aes.proofs.Rounds.{add-chunk, add-next, round-more, whole}
use Rattle.aes.proofs.key.AesKey.encipher.Goals as goal

pub loop-key-init : goal.loop-key-init
unfolding rounds
loop-key-init c =
    let words = c.args.self.now.words in
    c.load-s.ensures ∙ add-chunk words c.args.block.now c.as_chunks.result.0.now (length words / 4) 0 c.as_chunks.ensures.front (omega arith)

pub loop-key-preserved : goal.loop-key-preserved
loop-key-preserved c =
    let k = c.args.self.now in
    let n = c.loop-key.key-index in
    let x = mix_columns (shift_rows (sub_bytes (rounds k.words c.args.block.now n))) in
    let l = length-take (k.nk + 6 - 1) (drop 1 c.as_chunks.result.0.now) in
    let d = length-drop 1 c.as_chunks.result.0.now in
    rw c.loop-key.invariant at c.round-s.ensures
    ∙ add-next k.words x c.as_chunks.result.0.now (length k.words / 4) (k.nk + 6 - 1) n c.as_chunks.ensures.front (omega arith) (omega (arith, c.as_chunks.ensures.front_len))
    ∙ sym (round-more k.words c.args.block.now n)

pub returns : goal.returns
unfolding key_of
returns c =
    let k = c.args.self.now in
    let l = length-take (k.nk + 6 - 1) (drop 1 c.as_chunks.result.0.now) in
    let d = length-drop 1 c.as_chunks.result.0.now in
    let e : c.loop-key.key-index ≡ k.nk + 6 - 1 = omega (arith, c.as_chunks.ensures.front_len) in
    c.store.ensures ∙ rw (c.loop-key.invariant, e) at c.last_round.ensures
    ∙ add-chunk k.words (shift_rows (sub_bytes (rounds k.words c.args.block.now (k.nk + 6 - 1)))) c.as_chunks.result.0.now (length k.words / 4) (k.nk + 6) c.as_chunks.ensures.front (omega (arith, c.as_chunks.ensures.front_len))
    ∙ whole k.nk k.words c.args.block.now k.scheduled
