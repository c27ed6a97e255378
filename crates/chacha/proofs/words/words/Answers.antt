use Rattle.std.proofs.Common.{rules}
use Rattle.octets.proofs.Arrays.{items_from_fn}
use Rattle.chacha.proofs.words.words.Goals as goal
use Rattle.chacha.specs.Words.{word}

pub returns : goal.returns
returns g c = items_from_fn _ (word c.args.s.now) _ (λ i y q k. search rules) _ _ 0 c.from_fn.ensures.items
