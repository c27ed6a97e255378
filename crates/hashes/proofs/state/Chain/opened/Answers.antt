use Rattle.std.proofs.Common.{arith, lit<}
use Rattle.hashes.specs.Chaining.{taken-whole}
use Rattle.hashes.proofs.state.Chain.opened.Goals as goal

pub returns : goal.returns
returns g c = record {
  room = lit< tt;
  same = λ bs so. rw c.apply.ensures (taken-whole (g.F.BlockFunction.image c.args.f.now) bs c.args.self.sum c.args.self.fill so (omega arith));
}
