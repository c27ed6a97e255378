use Rattle.std.proofs.Common.{◌/◌, [], get_or, ap, ◌∙◌, rules}
use lib.Bits.{bit_xor}
use Rattle.std.specs.Simd.{first_chunks}
use Rattle.octets.proofs.Arrays.{items_from_fn}
use Rattle.aes.specs.Columns.{bytes_of}
use Rattle.aes.specs.Cipher.{key_word}
use Rattle.aes.proofs.Steps.{loading}
use Rattle.aes.proofs.state.load.Goals as goal

pub returns : goal.returns
returns c =
    let columns = c.as_chunks.result.0.now in
    ap bytes_of (items_from_fn _ (λ i. bit_xor (key_word (get_or columns i []) 0) (get_or c.args.key.now i 0)) _ (λ i y q k. search rules) c.from_fn.result 4 0 c.from_fn.ensures.items)
    ∙ loading c.args.block.now c.args.key.now columns c.fits-block (c.as_chunks.ensures.front ∙ ap (λ n. first_chunks 4 (n / 4) c.args.block.now) c.told-block)
