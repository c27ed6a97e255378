use Rattle.std.proofs.Common.{ℕ, ◌+◌, List, length, drop, ◌∙◌, ap₂, arith}
use Rattle.chacha.specs.ChaCha20.{block}
use Rattle.octets.specs.Strings.{xor}
use Rattle.expanders.proofs.Places.{within}
use Rattle.expanders.proofs.by_chacha.ChaChaExpanderExpander.add.Goals as goal
use Rattle.expanders.specs.Sequences.{blocks, chacha_sequence}

pub returns-clause-after : goal.returns-clause-after
unfolding chacha_sequence
returns-clause-after c =
    let s = c.args.stretch.now in
    let w = within 4096 c.args.domain (c.args.from + length s) _ c.in_ok-admit.ensures in
    c.add_blocks.ensures 64 (omega arith)
    ∙ ap₂ (λ (key nonce : List ℕ). xor s (drop c.args.from (blocks (λ j. block key j nonce) 0 64))) c.subkey.ensures c.nonce.ensures
