-- each example is what its definition computes to
use Rattle.std.proofs.Common.{refl}
use Rattle.sota_network.specs.Grid.{by_budget, lo, hi, choice}
use Rattle.sota_network.specs.Trees.{score, follow}
use Rattle.sota_network.specs.Reach.{reaches}
use Rattle.sota_network.specs.Region.{pairs_at, need}
use Rattle.sota_network.proofs.laws.worked_examples.Goals as goal

pub returns : goal.returns
unfolding by_budget lo hi choice follow score reaches pairs_at need
returns c = record {
  triangle_too_late = (refl, refl, refl);
  triangle_at_two = (refl, refl, refl);
  triangle_at_three = (refl, refl, refl);
  triangle_at_four = (refl, refl, refl);
  chain_rounds = (refl, refl);
  chain_exact = (refl, refl);
  fork_policy = (refl, refl);
  fork_routes = (refl, refl);
  triangle_reach = (refl, refl, refl, refl, refl);
  triangle_needs = (refl, refl, refl);
  triangle_cells = (refl, refl);
  twins_first = refl;
  bridge_lost = (refl, refl, refl);
  barrier_closed = (refl, refl, refl, refl);
}
