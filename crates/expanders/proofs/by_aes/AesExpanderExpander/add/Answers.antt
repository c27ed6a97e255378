use Rattle.std.proofs.Common.{ℕ, ◌+◌, List, length, drop, ap, ◌∙◌, arith}
use Rattle.aes.specs.Key.{key_of}
use Rattle.octets.specs.Strings.{xor}
use Rattle.expanders.proofs.Places.{within}
use Rattle.expanders.proofs.by_aes.AesExpanderExpander.add.Goals as goal
use Rattle.expanders.specs.Sequences.{blocks, counter_block, aes_sequence}

pub returns-clause-after : goal.returns-clause-after
unfolding aes_sequence
returns-clause-after c =
    let s = c.args.stretch.now in
    let key = key_of c.args.self.now.key in
    let w = within 4096 c.args.domain (c.args.from + length s) _ c.in_ok-admit.ensures in
    c.add_blocks.ensures 256 (omega arith)
    ∙ ap (λ (base : List ℕ). xor s (drop c.args.from (blocks (counter_block key base) 0 256))) (c.add_into.ensures ∙ ap (xor c.args.input.now) c.mask.ensures)
