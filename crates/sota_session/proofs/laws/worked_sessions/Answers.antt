-- each example is what its definition computes to
use Rattle.std.proofs.Common.{refl}
use Rattle.sota_network.specs.Grid.{by_budget}
use Rattle.sota_network.specs.Reach.{reaches}
use Rattle.sota_network.specs.Region.{need}
use Rattle.sota_kept.specs.Ticks.{ticks_to}
use Rattle.sota_session.proofs.laws.worked_sessions.Goals as goal

pub returns : goal.returns
unfolding by_budget reaches need ticks_to
returns c = record {
  asks = (refl, refl, refl, refl, refl, refl);
  at_once = (refl, refl);
  second = (refl, refl, refl, refl, refl);
  third = (refl, refl, refl);
  closed = (refl, refl, refl);
}
