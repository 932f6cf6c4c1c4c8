-- each example is what its definition computes to
use Rattle.std.proofs.Common.{refl}
use Rattle.sota_network.specs.Grid.{by_budget, lo, hi}
use Rattle.sota_quantile.proofs.laws.worked_needs.Goals as goal

pub returns : goal.returns
unfolding by_budget lo hi
returns c = record {
  triangle = (refl, refl);
  chain = (refl, refl, refl);
  ends = (refl, refl);
}
