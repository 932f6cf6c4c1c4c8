use Rattle.std.proofs.Common.{ℕ, ◌≤◌, List, length, sym, subst}
use Rattle.std.specs.List.{sum}
use Rattle.sota_network.specs.Network.{Net}
use Rattle.sota_network.specs.Numbers.{listed}
use Rattle.sota_network.specs.Laws.{ListLaws}
use Rattle.sota_kept.specs.States.{KEPT_LIMIT}
use Rattle.sota_kept.specs.TableLists.{AreTables}
use Rattle.sota_tables.specs.Views.{lists_of, row_needed}
use Rattle.sota_plan.proofs.Preparing.{needs-within, total-fits}
use Rattle.sota_plan.proofs.preparation.make_room.Goals as goal

pub regrow-requires-clause-total : goal.regrow-requires-clause-total
regrow-requires-clause-total c =
    let net : Net = c.args.network.now in
    let region = c.args.region.now in
    let old = c.args.tables.now in
    let new = c.settle.new.tables in
    let laws : ListLaws = c.lists_by_number.ensures in
    let held : AreTables (lists_of old) net.nodes = subst (λ (n : ℕ). AreTables (lists_of old) n) c.requires.kept.nodes.0 (c.views_are_lists.ensures.tables old c.settle.ensures.valid) in
    let within = needs-within net region.origin region.dest region.budget (λ i. c.needs_are_met.ensures.above net region.origin region.dest region.budget i c.requires.valid c.requires.budget) in
    subst (λ (needs : List ℕ). sum (listed (row_needed new needs) (length new.fronts)) ≤ KEPT_LIMIT) (sym c.as_slice.ensures)
    (total-fits laws net c.requires.valid region c.requires.region within c.least_ticks.ensures.time c.requires.cells old new c.settle.ensures.prepared
    (λ middle. c.tables_stay_right.ensures.cells net region.origin region.dest region.budget (lists_of old) (lists_of new) held middle))
