use Rattle.aes.specs.Key.{key_of}
use Rattle.expanders.specs.Counters.{counted}
use Rattle.expanders.proofs.by_aes.CountersBlocks16.block.Goals as goal

pub returns : goal.returns
returns c =
    let s = c.args.self.now in
    counted (key_of s.key.now) s.base c.add_at.new.dst c.to_be_bytes.result c.encipher.result c.args.j c.to_be_bytes.ensures c.add_at.ensures c.encipher.ensures
