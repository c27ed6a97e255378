use Rattle.std.proofs.Common.{get_or, sym, ◌∙◌, rules}
use Rattle.octets.proofs.Arrays.{items_from_fn}
use Rattle.chacha.proofs.Sums.{sums-map}
use Rattle.chacha.proofs.words.sum.Goals as goal
use Rattle.chacha.specs.Words.{plus}

pub returns : goal.returns
returns c =
    items_from_fn _ (λ i. plus (get_or c.args.s.now i 0) (get_or c.args.t.now i 0)) _ (λ i y q k. search rules) _ _ 0 c.from_fn.ensures.items
    ∙ sym (sums-map c.args.s.now c.args.t.now 16 c.told-s c.told-t)
