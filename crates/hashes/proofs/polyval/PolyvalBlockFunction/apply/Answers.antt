use Rattle.std.proofs.Common.{◌≡◌, sym, ap, ◌∙◌, ap₂}
use Rattle.octets.specs.Strings.{le, le_value}
use Rattle.hashes.specs.Strings.{value-sixteen, le-sixteen}
use Rattle.hashes.specs.Polynomials.{dot}
use Rattle.hashes.specs.Polyval.{dot_block}
use Rattle.hashes.proofs.polyval.PolyvalBlockFunction.apply.Goals as goal

pub returns : goal.returns
unfolding dot_block
returns c =
    let a : c.from_le_bytes.result ≡ le_value c.args.block.now = c.from_le_bytes.ensures ∙ value-sixteen c.args.block.now c.told-block in
    let b : c.from_le_bytes-2.result ≡ le_value c.args.self.now.key.bytes = c.from_le_bytes-2.ensures ∙ value-sixteen c.args.self.now.key.bytes c.args.self.now.key.long in
    c.to_le_bytes.ensures ∙ sym (le-sixteen c.dot.result) ∙ ap (le 16) (c.dot.ensures ∙ ap₂ dot a b)
