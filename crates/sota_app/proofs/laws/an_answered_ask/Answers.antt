use Rattle.std.proofs.Common.{refl, ◌∷◌, []}
use Rattle.sota_network.specs.Grid.{by_budget}
use Rattle.sota_network.specs.Reach.{reaches}
use Rattle.sota_network.specs.Region.{pairs_at, need}
use Rattle.sota_app.specs.Script.{ask_on}
use Rattle.sota_app.specs.Laws.{example_line}
use Rattle.sota_app.proofs.laws.an_answered_ask.Goals as goal

pub returns : goal.returns
unfolding by_budget reaches pairs_at need
returns c = record {
  lines = ask_on 1 example_line.ask ∷ [];
  request = refl;
  place = refl;
  accepted = refl;
}
