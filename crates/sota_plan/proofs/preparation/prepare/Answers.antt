use Rattle.std.proofs.Common.{rules, ℕ, ◌≡◌, Some, sym, subst}
use Rattle.sota_network.specs.Network.{Net, IsNet, arc_at}
use Rattle.sota_network.specs.declared.network.Arc.{Arc}
use Rattle.sota_kept.specs.TableLists.{AreTables}
use Rattle.sota_tables.specs.Views.{lists_of}
use Rattle.sota_plan.specs.Runs.{FitsIn}
use Rattle.sota_plan.proofs.Readying.{ready-run}
use Rattle.sota_plan.proofs.preparation.prepare.Goals as goal

pub returns-clause-ready : goal.returns-clause-ready
returns-clause-ready g c =
    let net : Net = c.args.network.now in
    let region = c.args.region.now in
    let v = c.make_room.new.tables in
    let valid : IsNet net = search rules in
    let prepared = c.make_room.ensures.prepared in
    let held : AreTables (lists_of v) net.nodes = subst (λ (n : ℕ). AreTables (lists_of v) n) prepared.nodes.0 (c.views_are_lists.ensures.tables v c.order_of.ensures.valid) in
    ready-run c.views_are_lists.ensures.table net valid region c.requires.region c.requires.budget (lists_of c.args.tables.now) v prepared held
    (c.tables_stay_right.ensures.settled net region.dest (lists_of v) c.requires.dest prepared.to held c.make_room.ensures.ready)
    c.in_ok-make_room.ensures.room c.in_ok-order.order c.in_ok-order.ensures.value (λ e arc at. c.arcs_by_number.ensures net e arc valid at)
    g.Z.Summer.state c.in_ok-broad.broad c.in_ok-broad.ensures.arcs c.in_ok-broad.ensures.sums c.in_ok-workspace.workspace
    (subst (λ (n : ℕ). (e : ℕ) (arc : Arc) → arc_at net e ≡ Some arc → FitsIn region n arc) (sym c.in_ok-workspace.ensures) c.in_ok-broad.ensures.places)
