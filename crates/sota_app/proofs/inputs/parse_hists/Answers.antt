use Rattle.std.proofs.Common.{rules, ◌≡◌, Ok}
use Rattle.sota_histcsv.specs.Histograms.{hist_net}
use Rattle.sota_app.proofs.PeriodRoads.{text_roads}
use Rattle.sota_app.proofs.inputs.parse_hists.Goals as goal

pub returns-in-Ok-clause-roads : goal.returns-in-Ok-clause-roads
returns-in-Ok-clause-roads c =
    let bytes = c.args.bytes.items in
    let graph = c.args.graph in
    let net = c.in-Ok.network in
    let is : hist_net bytes graph ≡ Ok net = search rules in
    text_roads bytes graph net
    (c.accepted_texts.ensures.accepted bytes graph net c.requires.graph is)
