use Rattle.std.proofs.Common.{get_or, ap, ◌∙◌, rules}
use lib.Bits.{bit_xor}
use Rattle.octets.proofs.Arrays.{items_from_fn}
use Rattle.aes.specs.Columns.{bytes_of, mix_column}
use Rattle.aes.proofs.Steps.{shifted, mixing}
use Rattle.aes.proofs.state.round.Goals as goal

pub returns : goal.returns
returns c =
    ap bytes_of (items_from_fn _ (λ i. bit_xor (shifted mix_column c.args.s.now i) (get_or c.args.key.now i 0)) _ (λ i y q k. search rules) _ 4 0 c.from_fn.ensures.items)
    ∙ mixing c.args.s.now c.args.key.now
