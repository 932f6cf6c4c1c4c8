use Rattle.std.proofs.Common.{length}
use Rattle.sota_tables.specs.Views.{TablesView}
use Rattle.sota_tables.proofs.Viewing.{may-push, view-longer}
use Rattle.sota_tables.proofs.tables.Tables.push_extent.Goals as goal

pub invariant_of-self : goal.invariant_of-self
invariant_of-self g c =
    let v : TablesView = record { dest = c.self.inside.dest; fronts = c.self.inside.fronts.items; bases = c.self.inside.bases.items; lower = c.self.inside.lower; upper = c.self.inside.upper; choices = c.self.inside.choices } in
    let may = may-push v _ c.get.result c.args.node c.known_end-end.result (length c.args.lower.now) c.self.view_is c.get.ensures c.requires.node c.known_end-end.ensures c.requires.end in
    rw (c.append.ensures.rows, c.append-2.ensures.rows, c.append-3.ensures.rows)
    (view-longer v c.self.invariant c.get.result c.known_end-end.result c.args.lower.now c.args.upper.now c.args.choices.now may c.requires.some c.requires.lengths.0 c.requires.lengths.1)
