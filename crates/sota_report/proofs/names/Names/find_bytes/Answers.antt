use Rattle.std.proofs.Common.{◌∙◌, ap, sym}
use Rattle.sota_report.specs.Names.{node_of}
use Rattle.sota_report.specs.Kept.{places_in}
use Rattle.sota_report.proofs.Entries.{found}
use Rattle.sota_report.proofs.Texts.{no_place}
use Rattle.sota_report.proofs.names.Names.find_bytes.Goals as goal

pub returns-in-Ok : goal.returns-in-Ok
returns-in-Ok c =
    c.copied.ensures ∙ c.get.ensures.value ∙ found c.self.inside.nodes.entries c.in-Ok.name.now
    ∙ ap (node_of (places_in c.self.inside.nodes.entries)) c.in-Ok.ensures.cases.0
    ∙ ap (λ places. node_of places c.args.name.now) c.self.view_is

pub returns-in-Err : goal.returns-in-Err
returns-in-Err c =
    sym (no_place (places_in c.self.inside.nodes.entries) c.args.name.now c.self.invariant.texts c.in-Err.ensures.cases.0)
    ∙ ap (λ places. node_of places c.args.name.now) c.self.view_is
