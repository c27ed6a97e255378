use Rattle.std.proofs.Common.{◌≡◌, ℕ, ◌*◌, ◌%◌, ◌^◌, sym, ap, ◌∙◌, arith}
use lib.Bits.{bit_xor}
use Rattle.octets.specs.Strings.{be, be_value}
use Rattle.hashes.specs.Macs.{doubled-is}
use Rattle.hashes.specs.Strings.{be-value-sixteen, be-sixteen}
use Rattle.hashes.specs.Cmac.{doubled, subkey}
use Rattle.hashes.proofs.cmac.subkey.Goals as goal

pub returns : goal.returns
unfolding subkey
returns c =
    let v : ℕ = c.from_be_bytes-v.result in
    let is : v ≡ be_value c.args.block.now = c.from_be_bytes-v.ensures ∙ be-value-sixteen c.args.block.now c.told-block in
    c.to_be_bytes.ensures
    ∙ sym (be-sixteen (bit_xor (v * 2 % 2 ^ 128) c.masked.result))
    ∙ ap (be 16) (ap (bit_xor (v * 2 % 2 ^ 128)) c.masked.ensures ∙ doubled-is v (omega arith) ∙ ap doubled is)
