use Rattle.std.proofs.Common.{◌≡◌, ℕ, ◌-◌, ◌≤◌, List, length, refl, rules}
use Rattle.ciphers.specs.Construction.{dec-code}
use Rattle.ciphers.proofs.Verdicts.{within}
use Rattle.ciphers.proofs.ddd.DddWideCipher.decipher.Goals as goal

pub returns : goal.returns
returns g c =
    let hash = g.H.KeyedHash.value c.args.self.now.hash in
    let mask : ℕ → List ℕ → List ℕ = λ d i. g.E.Expander.sequence c.args.self.now.expander d c.args.tweak.now i in
    let n : 32 ≤ length c.args.s.now = (within _ _ _ _ _ c.in_ok-admits.ensures).0 in
    let nh : length c.hash-h.result ≡ 16 = search rules in
    record {
      answer = c.in_ok-admits.ensures;
      after = dec-code hash mask c.args.s.now c.hash-hashed.result c.add_at.new.dst c.block.result c.mask.new.stretch _ c.block-2.result c.mask-2.new.stretch _ c.hash-h.result c.add_into.new.dst (length c.args.s.now - 16) n refl c.hash-hashed.ensures c.add_at.ensures c.block.ensures c.mask.ensures refl c.block-2.ensures c.mask-2.ensures refl c.hash-h.ensures nh c.add_into.ensures;
    }
