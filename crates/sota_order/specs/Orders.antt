-- How far the entries of each node are known, and how far they are needed.
use Rattle.std.specs.Prelude.{ℕ, ◌≡◌, ◌≢◌, ◌+◌, ◌-◌, ◌<◌, ◌≤◌, ◌⊎◌, ◌==◌, ◌||◌, max, List, length}
use Rattle.std.specs.Prelude.{slice_index, slice_set, false, Option, None, Some, if◌then◌else◌}
use Rattle.std.specs.List.{All}
use Rattle.sota_hist.specs.Time.{is_closed, least_tick}
use Rattle.sota_network.specs.Network.{Net, IsNode, arc_at}
use Rattle.sota_network.specs.declared.network.Arc.{Arc}
use Rattle.sota_kept.specs.Ticks.{END_LIMIT}
use Rattle.sota_kept.specs.States.{end_at}
use Rattle.sota_order.specs.declared.order.Extent.{Extent}

-- the destination, and for each node a front, a base and a need: those of node i stand at the index
-- i - 1
pub record OrderView : Type 0 where
  pub dest : ℕ
  pub fronts : List ℕ
  pub bases : List ℕ
  pub needs : List ℕ

abbrev pub need_at : OrderView → ℕ → ℕ
need_at w i = slice_index w.needs (i - 1)

-- the known end of node i: below it all is known
abbrev pub order_end : OrderView → ℕ → ℕ
order_end w i = end_at w.fronts w.bases i

-- each open arc's head is known or needed as far as its tail needs it. A closed arc reads nothing
abbrev pub HeadsSuffice : Net → OrderView → Type 0
HeadsSuffice net w =
    (e : ℕ) (arc : Arc) → arc_at net e ≡ Some arc → arc.tail ≢ w.dest
    → order_end w arc.tail < need_at w arc.tail → is_closed arc.time ≡ false → arc.head ≢ w.dest
    → need_at w arc.tail
    ≤ max (order_end w arc.head) (need_at w arc.head) + least_tick arc.time

-- the needs can be met: the lists fit the network, nothing is needed of the destination, and each
-- entry that is needed reads entries that are known or needed
pub record CanBeMet (net : Net) (w : OrderView) : Type 0 where
  pub nodes : (length w.fronts ≡ net.nodes) × (length w.bases ≡ net.nodes)
      × (length w.needs ≡ net.nodes)
  pub limits : All (λ n. n ≤ END_LIMIT) w.fronts × All (λ n. n ≤ END_LIMIT) w.bases
      × All (λ n. n ≤ END_LIMIT) w.needs
  pub dest : need_at w w.dest ≡ 0
  pub heads : HeadsSuffice net w

-- how far an arc lets its tail be known: as many ticks past its head's known end as it takes at
-- least. None: as far as one likes, since the arc is closed or leads to the destination, which is
-- known at every budget
abbrev pub bound_of : ℕ → List ℕ → List ℕ → Arc → Option ℕ
bound_of dest fronts bases arc =
    if (arc.head == dest) || is_closed arc.time
    then None
    else Some (end_at fronts bases arc.head + least_tick arc.time)

-- the smaller of the node's need and the least that an arc leaving it allows
pub record IsReach (net : Net) (w : OrderView) (i to : ℕ) : Type 0 where
  pub need : to ≤ need_at w i
  pub arcs : (e : ℕ) (arc : Arc) (bound : ℕ) → arc_at net e ≡ Some arc → arc.tail ≡ i
      → bound_of w.dest w.fronts w.bases arc ≡ Some bound → to ≤ bound
  pub attained : (to ≡ need_at w i)
      ⊎ ((e : ℕ) × (arc : Arc) × (arc_at net e ≡ Some arc) × (arc.tail ≡ i)
      × (bound_of w.dest w.fronts w.bases arc ≡ Some to))

-- the next budgets of a node that is not known as far as it is needed
pub record IsNext (net : Net) (w : OrderView) (extent : Extent) : Type 0 where
  pub node : IsNode net extent.node
  pub needed : order_end w extent.node < need_at w extent.node
  pub from : extent.from ≡ order_end w extent.node
  pub reach : IsReach net w extent.node extent.to
  pub some : extent.from < extent.to

-- the front of a node is another
abbrev pub with_front : OrderView → ℕ → ℕ → OrderView
with_front w i front = record {
  dest = w.dest;
  fronts = slice_set w.fronts (i - 1) front;
  bases = w.bases;
  needs = w.needs;
}

-- all is known as far as it is needed
abbrev pub AreNeedsMet : Net → OrderView → Type 0
AreNeedsMet net w = (i : ℕ) → IsNode net i → need_at w i ≤ order_end w i
