use Rattle.std.proofs.Common.{◌≡◌, ◌≢◌, ◌+◌, Some, refl, sym, ◌∙◌, arith}
use Rattle.std.proofs.lemmas.Bool.{ne_eqb}
use Rattle.sota_hist.specs.Time.{least_tick}
use Rattle.sota_network.specs.Network.{IsArc}
use Rattle.sota_order.specs.Orders.{bound_of, order_end}
use Rattle.sota_order.proofs.laws.extents_of_tables.Goals as goal

pub returns : goal.returns
returns c = record {
  heads = λ net origin dest last w tables valid within to ready ends needs e arc at off waits opened apart.
      let is : IsArc net arc = c.arcs_by_number.ensures net e arc valid at in
      let elsewhere : arc.head ≢ dest = λ z. apart (z ∙ sym to) in
      let enough = c.needs_are_met.ensures.closed net origin dest last arc.tail e arc (tables arc.head) valid within at refl opened elsewhere (ready arc.head is.head elsewhere) in
      omega (arith, enough, ends arc.head is.head, needs arc.tail is.tail, needs arc.head is.head);
  extent = λ net w tables i to valid reach ends e arc at tail opened apart.
      let is : IsArc net arc = c.arcs_by_number.ensures net e arc valid at in
      let bounded : bound_of w.dest w.fronts w.bases arc ≡ Some (order_end w arc.head + least_tick arc.time) = rw (ne_eqb arc.head w.dest apart, opened) refl in
      omega (arith, reach.arcs e arc (order_end w arc.head + least_tick arc.time) at tail bounded, ends arc.head is.head);
}
