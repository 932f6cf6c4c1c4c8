-- What networks state of the region of an ask, in the form in which it is used here.
use Rattle.std.specs.Prelude.{ℕ, ◌≡◌, ◌-◌, ◌<◌, ◌≤◌, nat_le, true, false, slice_index, Some}
use Rattle.std.specs.List.{All}
use Rattle.sota_network.specs.Network.{Net, IsNet, IsArc, IsNode, arc_at}
use Rattle.sota_network.specs.Grid.{lo, hi}
use Rattle.sota_network.specs.Walks.{Walk}
use Rattle.sota_network.specs.Reach.{reaches}
use Rattle.sota_network.specs.Region.{need, pairs_at}
use Rattle.sota_network.specs.declared.network.Arc.{Arc}
use Rattle.sota_bounds.specs.Search.{time_at}
use Rattle.sota_bounds.specs.Regions.{IsRegion}
use Rattle.sota_bounds.specs.declared.ask.AskRegion.{AskRegion}
use Rattle.sota_network.specs.Laws.{ListLaws}
use Rattle.sota_kept.specs.Ticks.{END_LIMIT, up_to, least_to}
use Rattle.sota_kept.specs.NodeTables.{NodeTable, AreReady, IsExtent, known_end}
use Rattle.sota_order.specs.Orders.{OrderView, HeadsSuffice, IsReach, order_end, need_at}

-- the least times to a destination
pub record TimeLaws (net : Net) (dest : ℕ) : Type 0 where
  pub arc : (e : ℕ) (arc : Arc) → arc_at net e ≡ Some arc → IsArc net arc
  pub reach : (i t : ℕ) → t < END_LIMIT
      → reaches net dest dest i t ≡ nat_le (least_to net dest i) t
  pub most : (i : ℕ) → least_to net dest i ≤ END_LIMIT
  pub walk : (i t : ℕ) → reaches net dest dest i t ≡ true
      → (n : ℕ) × Walk net dest i dest n × (n ≤ t)
  pub onward : (i t n : ℕ) → Walk net dest i dest n → n ≤ t → reaches net dest dest i t ≡ true
  pub below : (i t : ℕ) → reaches net dest dest i t ≡ false → hi net dest i t ≡ 0
  pub order : (i t : ℕ) → lo net dest i t ≤ hi net dest i t

-- a region of a valid network
pub record RegionLaws (net : Net) (region : AskRegion) : Type 0 where
  pub valid : IsNet net
  pub laws : TimeLaws net region.dest
  pub lists : ListLaws
  pub is : IsRegion region net region.origin region.dest region.budget
  pub times : (i : ℕ) → IsNode net i
      → up_to END_LIMIT (time_at region.least i) ≡ least_to net region.dest i
  pub need_is : (i : ℕ) → IsNode net i → slice_index region.need (i - 1)
      ≡ need net region.origin region.dest region.budget i
  pub within : (i : ℕ) → need net region.origin region.dest region.budget i ≤ END_LIMIT
  pub needs : (i : ℕ) → IsNode net i → slice_index region.need (i - 1) ≤ END_LIMIT
  pub needs_all : All (λ n. n ≤ END_LIMIT) region.need
  pub dest_need : need net region.origin region.dest region.budget region.dest ≡ 0
  pub heads : (w : OrderView) (tables : ℕ → NodeTable) → w.dest ≡ region.dest
      → AreReady net region.dest tables
      → ((i : ℕ) → IsNode net i → known_end (tables i) ≡ order_end w i)
      → ((i : ℕ) → IsNode net i → need_at w i
      ≡ need net region.origin region.dest region.budget i)
      → HeadsSuffice net w
  pub none : pairs_at net region.origin region.dest region.budget region.dest ≡ 0
  pub extent : (w : OrderView) (tables : ℕ → NodeTable) (i to : ℕ) → IsReach net w i to
      → ((j : ℕ) → IsNode net j → known_end (tables j) ≡ order_end w j)
      → IsExtent net w.dest tables i to
