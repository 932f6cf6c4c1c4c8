use Rattle.std.proofs.Common.{arith}
use Rattle.sota_tables.specs.Views.{TablesView}
use Rattle.sota_tables.proofs.Viewing.{may-push, view-pushed}
use Rattle.sota_tables.proofs.tables.Tables.push_entry.Goals as goal

pub invariant_of-self : goal.invariant_of-self
invariant_of-self g c =
    let v : TablesView = record { dest = c.self.inside.dest; fronts = c.self.inside.fronts.items; bases = c.self.inside.bases.items; lower = c.self.inside.lower; upper = c.self.inside.upper; choices = c.self.inside.choices } in
    let may = may-push v _ c.get.result c.args.node c.known_end-end.result 1 c.self.view_is c.get.ensures c.requires.node c.known_end-end.ensures (omega (arith, c.requires.end)) in
    rw (c.push.ensures.rows, c.push-2.ensures.rows, c.push-3.ensures.rows) (view-pushed v c.self.invariant c.get.result c.known_end-end.result c.args.lower c.args.upper c.of.result may)
