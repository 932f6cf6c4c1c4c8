-- each example is what its definition computes to
use Rattle.std.proofs.Common.{refl}
use Rattle.sota_network.specs.Grid.{by_budget}
use Rattle.sota_period.specs.Grid.{timed_value}
use Rattle.sota_period.proofs.laws.worked_examples.Goals as goal

pub returns : goal.returns
unfolding by_budget timed_value
returns c = record {
  late = (refl, refl, refl);
  early = (refl, refl, refl);
  differs = refl;
}
