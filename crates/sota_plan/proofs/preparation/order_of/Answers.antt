use Rattle.std.proofs.Common.{◌≡◌, refl}
use Rattle.sota_network.specs.Network.{Net}
use Rattle.sota_network.specs.Laws.{ListLaws}
use Rattle.sota_kept.specs.TableLists.{table_of}
use Rattle.sota_order.specs.Orders.{OrderView}
use Rattle.sota_tables.specs.Views.{lists_of}
use Rattle.sota_plan.proofs.Preparing.{needs-within, need-is, needs-all, can-be-met}
use Rattle.sota_plan.proofs.preparation.order_of.Goals as goal

pub new-requires : goal.new-requires
new-requires c =
    let net : Net = c.args.network.now in
    let region = c.args.region.now in
    let v = c.args.tables.now in
    let laws : ListLaws = c.lists_by_number.ensures in
    let within = needs-within net region.origin region.dest region.budget (λ i. c.needs_are_met.ensures.above net region.origin region.dest region.budget i c.requires.valid c.requires.budget) in
    let plain : OrderView = record { dest = region.dest; fronts = v.fronts; bases = v.bases; needs = region.need } in
    let w : OrderView = record { dest = region.dest; fronts = c.fronts-fronts.result.now; bases = c.bases-bases.result.now; needs = c.as_slice.result.now } in
    let at : w ≡ plain = λ j. record { dest = region.dest; fronts = c.fronts-fronts.ensures.value j; bases = c.bases-bases.ensures.value j; needs = c.as_slice.ensures j } in
    can-be-met laws net c.requires.valid region c.requires.region within v c.bases-bases.ensures.valid.bases c.bases-bases.ensures.valid.tables c.requires.dest c.requires.nodes
    (c.region_by_least_times.ensures.dest_need net region.origin region.dest region.budget)
    (needs-all laws net c.requires.valid region c.requires.region within c.lists_by_number.ensures.within) w at
    (c.extents_of_tables.ensures.heads net region.origin region.dest region.budget plain (table_of (lists_of v)) c.requires.valid c.requires.budget refl c.requires.ready (λ i node. refl)
    (λ i node. need-is laws net c.requires.valid region c.requires.region within i node))
