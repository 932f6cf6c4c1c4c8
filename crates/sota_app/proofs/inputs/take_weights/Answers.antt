use Rattle.std.proofs.Common.{rules, ◌≡◌, Ok}
use Rattle.sota_histcsv.specs.Certain.{certain_net}
use Rattle.sota_app.proofs.PeriodRoads.{weights_roads}
use Rattle.sota_app.proofs.inputs.take_weights.Goals as goal

pub returns-in-Ok-clause-roads : goal.returns-in-Ok-clause-roads
returns-in-Ok-clause-roads c =
    let is : certain_net c.args.graph ≡ Ok c.in-Ok.network = search rules in
    weights_roads c.args.graph c.in-Ok.network is
