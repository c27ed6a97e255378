use Rattle.std.proofs.Common.{ℕ, List, ◌++◌, take, sym, ap, ◌∙◌}
use Rattle.octets.proofs.Slices.{put_mid-tail}
use Rattle.octets.proofs.Xor.{xor_at-past}
use Rattle.octets.proofs.add_at.Goals as goal
use Rattle.octets.specs.Strings.{xor, xor_at}
use Rattle.std.proofs.lemmas.List.{take_rest}

pub returns-then-at-dst : goal.returns-then-at-dst
unfolding xor_at
returns-then-at-dst c =
    rw put_mid-tail (ap (λ (t : List ℕ). take c.args.at c.args.dst.now ++ t) (c.add_into.ensures ∙ ap (λ (t : List ℕ). xor t c.args.src.now) (take_rest c.args.dst.now c.args.at)))

pub returns-else-at-dst : goal.returns-else-at-dst
returns-else-at-dst c = sym (xor_at-past c.args.at c.args.dst.now c.args.src.now c.if-at-dst.false)
