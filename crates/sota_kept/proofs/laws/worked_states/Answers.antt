-- each example is what its definition computes to
use Rattle.std.proofs.Common.{refl}
use Rattle.sota_network.specs.Grid.{by_budget}
use Rattle.sota_network.specs.Reach.{reaches}
use Rattle.sota_network.specs.Region.{need}
use Rattle.sota_kept.specs.Ticks.{ticks_to}
use Rattle.sota_kept.proofs.laws.worked_states.Goals as goal

pub returns : goal.returns
unfolding by_budget reaches need ticks_to
returns c = record {
  times = (refl, refl, refl);
  affected = (refl, refl, refl);
  first_ask = refl;
  first_missing = refl;
  edit = refl;
  later_asks = (refl, refl, refl);
  other_edit = refl;
  closed = (refl, refl);
}
