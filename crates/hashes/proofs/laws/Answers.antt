use Rattle.std.proofs.Common.{refl}
use Rattle.octets.specs.Strings.{xor, le, be, le_value}
use Rattle.hashes.proofs.Division.{stands}
use Rattle.hashes.specs.Chain.{chained}
use Rattle.hashes.specs.Polynomials.{product, remainder, times, dot}
use Rattle.hashes.specs.Polyval.{dot_block, polyval}
use Rattle.hashes.proofs.laws.Goals as goal

pub returns : goal.returns
unfolding polyval chained dot_block xor le be le_value dot times remainder product
returns c = record {
  laws = stands;
  known = record {
    inverse_is = refl;
    x128_is = refl;
    empty = refl;
    one = refl;
    sixteen = refl;
    product_is = refl;
    dot_is = refl;
    two_blocks = refl;
  };
}
