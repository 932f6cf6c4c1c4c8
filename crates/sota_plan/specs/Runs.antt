-- What an ask is planned with, when it is ready to be filled, and what it has spent then.
use Rattle.std.specs.Prelude.{ℕ, ◌≡◌, ◌+◌, ◌-◌, ◌<◌, ◌≤◌, ◌&&◌, nat_lt, Bool, true, false}
use Rattle.std.specs.Prelude.{List, length, slice_index, slice_index_or}
use Rattle.std.specs.Prelude.{Option, None, Some, if◌then◌else◌}
use Rattle.sota_units.specs.Limits.{BUDGET_LIMIT}
use Rattle.sota_hist.specs.Time.{within, least_tick}
use Rattle.sota_network.specs.Network.{Net, IsNet, IsNode, arc_at}
use Rattle.sota_network.specs.Grid.{lo, hi}
use Rattle.sota_network.specs.Region.{NARROW, pairs_at}
use Rattle.sota_network.specs.declared.network.Arc.{Arc}
use Rattle.sota_online.specs.Summer.{SummerState, kernel_of, unfed}
use Rattle.sota_bounds.specs.Cells.{pairs_by_lists}
use Rattle.sota_bounds.specs.Regions.{IsRegion}
use Rattle.sota_bounds.specs.declared.ask.AskRegion.{AskRegion}
use Rattle.sota_kept.specs.Ticks.{least_to}
use Rattle.sota_kept.specs.NodeTables.{known_end}
use Rattle.sota_kept.specs.TableLists.{AreTables, IsSettled}
use Rattle.sota_order.specs.Orders.{OrderView}
use Rattle.sota_tables.specs.Views.{TablesView, lists_of, table_at, room_of}
use Rattle.sota_fill.specs.Fed.{SummersList}
use Rattle.sota_fill.specs.declared.broad.Summers.{Summers}
use Rattle.sota_plan.specs.Steps.{base_by}

-- the two summers of an arc: one is fed the lower values at its head, the other the upper ones
pub record ArcSums : Type 0 where
  pub lower : SummerState
  pub upper : SummerState

-- the region of the ask, the order of the extents, for each arc by its number two summers or none,
-- and for how long kernels there is room to work
pub record RunView : Type 0 where
  pub region : AskRegion
  pub order : OrderView
  pub sums : List (Option ArcSums)
  pub places : ℕ

-- the two summers that a run keeps, as their states
abbrev pub states_of : {Z : Type 0} → (Z → SummerState) → Option (Summers Z) → Option ArcSums
states_of state None = None
states_of state (Some two) = Some (record { lower = state two.lower; upper = state two.upper })

-- those that stand for arc e
abbrev pub states_at : {Z : Type 0} → (Z → SummerState) → SummersList Z → ℕ → Option ArcSums
states_at state broad e = states_of state (slice_index_or broad (e - 1) None)

-- how long their kernel is, 0 where there are none
abbrev pub kernel_places : Option ArcSums → ℕ
kernel_places None = 0
kernel_places (Some two) = length two.lower.kernel

-- those of arc e
abbrev pub sums_at : RunView → ℕ → Option ArcSums
sums_at run e = slice_index_or run.sums (e - 1) None

-- an arc is broad where its tail has a pair in the region, and more than 32 of its ticks are within
-- the budget
abbrev pub is_broad_by : ℕ → ℕ → Arc → Bool
is_broad_by pairs last arc = nat_lt 0 pairs && nat_lt NARROW (length (within last arc.time))

-- the most values that a summer of the arc is fed: one for each pair of its tail in the region
abbrev pub most_fed : Net → AskRegion → Arc → ℕ
most_fed net region arc = pairs_at net region.origin region.dest region.budget arc.tail

abbrev pub is_broad : Net → AskRegion → Arc → Bool
is_broad net region arc = is_broad_by (most_fed net region arc) region.budget arc

-- the position of the sum that belongs to the first entry that the tail of an arc lacks
abbrev pub first_position : TablesView → AskRegion → Arc → ℕ
first_position tables region arc = known_end (table_at tables arc.tail) + 1
    - (least_tick arc.time + base_by region.least arc.head)

-- two such summers where an arc whose tail has so many pairs is broad, else none
abbrev pub first_sums_by : ℕ → ℕ → ℕ → Arc → Option ArcSums
first_sums_by pairs start last arc =
    if is_broad_by pairs last arc
    then Some (record { lower = unfed pairs start arc.time; upper = unfed pairs start arc.time })
    else None

abbrev pub first_sums : Net → AskRegion → TablesView → Arc → Option ArcSums
first_sums net region tables arc = first_sums_by (most_fed net region arc)
    (first_position tables region arc) region.budget arc

-- the same by the lists of a region
abbrev pub made_sums : TablesView → AskRegion → Arc → Option ArcSums
made_sums tables region arc = first_sums_by (pairs_by_lists region.least region.need arc.tail)
    (first_position tables region arc) region.budget arc

-- there is room to work for the kernel of an arc, where it is broad by the lists of a region
abbrev pub FitsIn : AskRegion → ℕ → Arc → Type 0
FitsIn region places arc =
    is_broad_by (pairs_by_lists region.least region.need arc.tail) region.budget arc ≡ true
    → length (kernel_of (pairs_by_lists region.least region.need arc.tail) arc.time) ≤ places

-- there is room to work for the kernels of all broad arcs
abbrev pub HasPlaces : Net → AskRegion → ℕ → Type 0
HasPlaces net region places = (e : ℕ) (arc : Arc) → arc_at net e ≡ Some arc
    → is_broad net region arc ≡ true
    → length (kernel_of (most_fed net region arc) arc.time) ≤ places

-- ---- ready to be filled
-- the tables are settled, and a node without an entry above its least time has that as its base.
-- The region is that of the network, there is room up to each need, the order is that of the tables
-- and the needs, no value is fed yet, and there is room to work
pub record IsReady (run : RunView) (tables : TablesView) (net : Net) : Type 0 where
  pub valid : IsNet net
  pub tables_are : AreTables (lists_of tables) net.nodes
  pub settled : IsSettled (lists_of tables) net
  pub based : (i : ℕ) → IsNode net i
      → (table_at tables i).front ≤ least_to net run.region.dest i
      → (table_at tables i).base ≡ least_to net run.region.dest i
  pub region : IsRegion run.region net run.region.origin run.region.dest run.region.budget
  pub budget : run.region.budget ≤ BUDGET_LIMIT
  pub dest : tables.dest ≡ Some run.region.dest
  pub room : (i : ℕ) → IsNode net i
      → slice_index run.region.need (i - 1) - known_end (table_at tables i) ≤ room_of tables i
  pub order : run.order ≡ record {
    dest = run.region.dest;
    fronts = tables.fronts;
    bases = tables.bases;
    needs = run.region.need;
  }
  pub arcs : length run.sums ≡ length net.arcs
  pub sums : (e : ℕ) (arc : Arc) → arc_at net e ≡ Some arc
      → sums_at run e ≡ first_sums net run.region tables arc
  pub work : HasPlaces net run.region run.places

-- ---- spent
-- how many values the summers of an arc are fed: where its tail missed entries, those that these
-- rest on, from the least time of the head on
abbrev pub values_fed : Net → AskRegion → TablesView → Arc → ℕ
values_fed net region before arc =
    if nat_lt (known_end (table_at before arc.tail)) (slice_index region.need (arc.tail - 1))
    then slice_index region.need (arc.tail - 1)
    - (least_tick arc.time + least_to net region.dest arc.head)
    else 0

-- a summer of the arc that was fed so many values, those of f from the head's least time on
pub record WasFed (net : Net) (region : AskRegion) (arc : Arc) (count : ℕ) (f : ℕ → ℕ)
    (state : SummerState) : Type 0 where
  pub kernel : state.kernel ≡ kernel_of (most_fed net region arc) arc.time
  pub count_is : length state.values ≡ count
  pub values : (a : ℕ) → a < count
      → slice_index state.values a ≡ f (least_to net region.dest arc.head + a)

-- both summers of the arc were fed the grid's values at its head
pub record HasSpent (net : Net) (region : AskRegion) (before : TablesView) (arc : Arc)
    (sums : Option ArcSums) : Type 0 where
  pub two : ArcSums
  pub are : sums ≡ Some two
  pub lower : WasFed net region arc (values_fed net region before arc)
      (lo net region.dest arc.head) two.lower
  pub upper : WasFed net region arc (values_fed net region before arc)
      (hi net region.dest arc.head) two.upper

-- the summers of each broad arc whose tail missed entries were fed exactly the values that these
-- entries rest on, and those of the other broad arcs none
pub record AreSpent (before : TablesView) (run : RunView) (net : Net) : Type 0 where
  pub region : IsRegion run.region net run.region.origin run.region.dest run.region.budget
  pub arcs : length run.sums ≡ length net.arcs
  pub sums : (e : ℕ) (arc : Arc) → arc_at net e ≡ Some arc → is_broad net run.region arc ≡ true
      → HasSpent net run.region before arc (sums_at run e)
  pub narrow : (e : ℕ) (arc : Arc) → arc_at net e ≡ Some arc
      → is_broad net run.region arc ≡ false → sums_at run e ≡ None
