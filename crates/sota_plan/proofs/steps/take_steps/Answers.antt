use Rattle.std.proofs.Common.{ℕ, List, length, sym, ◌∙◌, ap, subst}
use Rattle.sota_network.specs.Network.{Net}
use Rattle.sota_network.specs.Region.{need}
use Rattle.sota_network.specs.Laws.{ListLaws}
use Rattle.sota_kept.specs.TableLists.{AreTables}
use Rattle.sota_tables.specs.Views.{lists_of}
use Rattle.sota_plan.proofs.Stepping.{bases-long, bases-within, bases-at, steps-prepared}
use Rattle.sota_plan.proofs.steps.take_steps.Goals as goal

pub change-requires-clause-nodes : goal.change-requires-clause-nodes
change-requires-clause-nodes c =
    let net : Net = c.args.network.now in
    let region = c.args.region.now in
    let laws : ListLaws = c.lists_by_number.ensures in (
      ap (λ (xs : List ℕ). length xs) c.requires.region.need ∙ laws.count (need net region.origin region.dest region.budget) net.nodes ∙ sym c.requires.nodes.0,
      bases-long laws c.args.bases.now region.least net.nodes c.requires.bases ∙ sym c.requires.nodes.0,
    )

pub change-requires-clause-within : goal.change-requires-clause-within
change-requires-clause-within c =
    let laws : ListLaws = c.lists_by_number.ensures in
    bases-within laws c.args.bases.now c.args.region.now.least c.args.network.now.nodes c.requires.bases c.lists_by_number.ensures.within

pub returns-clause-prepared : goal.returns-clause-prepared
returns-clause-prepared c =
    let net : Net = c.args.network.now in
    let region = c.args.region.now in
    let laws : ListLaws = c.lists_by_number.ensures in
    let held : AreTables (lists_of c.args.tables.now) net.nodes = subst (λ (n : ℕ). AreTables (lists_of c.args.tables.now) n) c.requires.nodes.0 (c.views_are_lists.ensures.tables c.args.tables.now c.change.ensures.valid) in
    let steps = c.change.ensures.tables in
    steps-prepared laws c.views_are_lists.ensures.table net region.origin region.dest region.budget c.args.tables.now c.change.new.tables region.need c.args.bases.now c.requires.nodes c.requires.region.need
    (λ i node. bases-at laws c.args.bases.now region.least net.nodes c.requires.bases c.least_ticks.ensures.time net c.requires.valid region.dest i node.0 node.1 (c.requires.region.least i node))
    c.change.ensures.dest c.change.ensures.nodes steps
    (λ middle. c.tables_stay_right.ensures.cells net region.origin region.dest region.budget (lists_of c.args.tables.now) (lists_of steps.mid) held middle)
