use Rattle.std.proofs.Common.{ap, sym, ◌∙◌, arith}
use Rattle.sota_histcsv.specs.Certain.{certain_arcs}
use Rattle.sota_histcsv.proofs.Weights.{weights_are}
use Rattle.sota_histcsv.proofs.certain.certain_network.Goals as goal

pub build-requires-clause-arcs : goal.build-requires-clause-arcs
build-requires-clause-arcs c =
    let are = weights_are c.args.graph c.in_ok-arcs.arcs.items c.requires
    (ap certain_arcs (sym c.as_slice.ensures) ∙ c.in_ok-arcs.ensures) in
    omega (arith, are.few, c.requires.few_arcs)

pub build-requires-clause-valid : goal.build-requires-clause-valid
build-requires-clause-valid c =
    (weights_are c.args.graph c.in_ok-arcs.arcs.items c.requires
    (ap certain_arcs (sym c.as_slice.ensures) ∙ c.in_ok-arcs.ensures)).valid
