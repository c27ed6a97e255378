use Rattle.std.proofs.Common.{◌≡◌, ℕ, ◌<◌, List, [], ◌++◌, ap, ◌∙◌, ap₂, arith}
use Rattle.octets.specs.Strings.{xor}
use Rattle.aes.specs.Cipher.{aes}
use Rattle.aes.specs.Key.{key_of}
use Rattle.hashes.specs.Macs.{cmac-complete, cmac-incomplete}
use Rattle.hashes.specs.Absorbed.{Absorbed}
use Rattle.hashes.specs.Cmac.{cmac}
use Rattle.hashes.proofs.cmac.CmacKeyedHash.hash.Goals as goal
use Rattle.hashes.proofs.cmac.CmacKeyedHash.hash.Goals.{then-chain-eq16, else-chain-eq16}

pub returns : goal.returns
returns c =
    let keys = c.args.self.now.keys in
    let key : List ℕ = key_of keys.cipher in
    let first : List ℕ = c.args.first.now in
    let all : List ℕ = first ++ c.args.second.now in
    let chain = c.absorb-chain.result in
    let sum : List ℕ = chain.sum in
    let so : Absorbed (aes key) all sum chain.fill = c.absorb-chain.ensures first (c.absorb.ensures [] (c.new.ensures (aes key))) in
    let value : aes key c.if-chain-eq16.last ≡ cmac key all =
    elim c.if-chain-eq16.branch [
      | then-chain-eq16 w ↦
          ap (aes key) (w.last-is ∙ w.add_into.ensures ∙ ap (xor sum) keys.first)
          ∙ cmac-complete key all sum chain.fill so chain.within w.if-chain-eq16.true
      | else-chain-eq16 w ↦
          let part : chain.fill < 16 = omega (arith, w.if-chain-eq16.false, chain.within) in
          ap (aes key) (w.last-is ∙ w.add_into-else-chain-eq16.ensures ∙ ap₂ xor w.add_at.ensures keys.second)
          ∙ cmac-incomplete key all sum chain.fill so chain.within part
    ] in
    c.encipher.ensures ∙ value
