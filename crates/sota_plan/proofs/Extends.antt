-- What is left to fill, when it can be, and how far the summers of each arc are fed meanwhile.
use Rattle.std.specs.Prelude.{ℕ, ◌≡◌, ◌+◌, ◌-◌, ◌≤◌, nat_lt, true, false, List, length, slice_index}
use Rattle.std.specs.Prelude.{Option, None, Some, if◌then◌else◌}
use Rattle.std.specs.List.{sum}
use Rattle.sota_network.specs.Network.{Net, IsNode, arc_at}
use Rattle.sota_network.specs.Numbers.{listed}
use Rattle.sota_network.specs.declared.network.Arc.{Arc}
use Rattle.sota_online.specs.Summer.{SummerState}
use Rattle.sota_bounds.specs.declared.ask.AskRegion.{AskRegion}
use Rattle.sota_kept.specs.NodeTables.{NodeTable, known_end}
use Rattle.sota_order.specs.Orders.{OrderView, need_at, order_end}
use Rattle.sota_tables.specs.Views.{TablesView, table_at, room_of}
use Rattle.sota_fill.specs.declared.broad.Summers.{Summers}
use Rattle.sota_fill.specs.Fed.{SummersList, summers_at}
use Rattle.sota_plan.specs.Runs.{is_broad, most_fed, first_position}
use Rattle.sota_plan.specs.Summed.{SummedAs, values_below}

-- an order and tables have the same of each node of the network, and there is room up to each need
pub record Agrees (net : Net) (order : OrderView) (tables : TablesView) : Type 0 where
  pub nodes : length tables.fronts ≡ net.nodes
  pub ends : (i : ℕ) → IsNode net i → order_end order i ≡ known_end (table_at tables i)
  pub room : (i : ℕ) → IsNode net i
      → need_at order i ≤ known_end (table_at tables i) + room_of tables i

-- how many entries are left to push up to each need
abbrev pub left_of : ℕ → List ℕ → (ℕ → NodeTable) → ℕ
left_of nodes needs tables =
    sum (listed (λ i. slice_index needs (i - 1) - known_end (tables i)) nodes)

-- how many values the summers of an arc were fed so far: none while its tail has no new entry
abbrev pub fed_so_far : Net → AskRegion → TablesView → TablesView → Arc → ℕ
fed_so_far net region before now arc =
    if nat_lt (known_end (table_at before arc.tail)) (known_end (table_at now arc.tail))
    then values_below net region.dest arc (known_end (table_at now arc.tail))
    else 0

-- an arc has two summers that were fed so many values where it is broad, else none. Their sums are
-- read from the first entry on that its tail lacked
pub record ArcSummed {Z : Type 0} (state : Z → SummerState) (net : Net) (region : AskRegion)
    (before now : TablesView) (arc : Arc) (found : Option (Summers Z)) : Type 0 where
  pub broad : is_broad net region arc ≡ true
      → SummedAs state net region.dest arc (fed_so_far net region before now arc)
      (most_fed net region arc) (first_position before region arc) found
  pub narrow : is_broad net region arc ≡ false → found ≡ None

-- the same of all arcs
abbrev pub AllSummed : {Z : Type 0} → (Z → SummerState) → Net → AskRegion → TablesView
    → TablesView → SummersList Z → Type 0
AllSummed state net region before now broad = (e : ℕ) (arc : Arc) → arc_at net e ≡ Some arc
    → ArcSummed state net region before now arc (summers_at broad e)
