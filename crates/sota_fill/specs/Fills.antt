-- What filling budgets of one node does to tables.
use Rattle.std.specs.Prelude.{ℕ, ◌≡◌, ◌≢◌, ◌+◌, ◌<◌, ◌≤◌, Some, false, length}
use Rattle.sota_hist.specs.Time.{is_closed, least_tick}
use Rattle.sota_network.specs.Network.{Net, IsNet, IsNode, arc_at}
use Rattle.sota_network.specs.Grid.{lo, hi}
use Rattle.sota_network.specs.declared.network.Arc.{Arc}
use Rattle.sota_kept.specs.Ticks.{END_LIMIT}
use Rattle.sota_kept.specs.NodeTables.{NodeTable, AreReady, IsExtent, known_end}
use Rattle.sota_kept.specs.NodeTables.{lower_in, upper_in}
use Rattle.sota_online.specs.Summer.{SummerState}
use Rattle.sota_tables.specs.Views.{TablesView, OnlyAt, SameRooms, table_at, room_of}
use Rattle.sota_fill.specs.Fed.{AreFed, IsTarget, summers_at}
use Rattle.sota_fill.specs.declared.broad.Summers.{Summers}
use Rattle.sota_fill.specs.declared.sources.Sources.{Sources}

-- so many entries more at node i, from its known end on: only its front, its rows and its room
-- change
pub record IsLonger (i count : ℕ) (old new : TablesView) : Type 0 where
  pub only : OnlyAt i old new
  pub base : (table_at new i).base ≡ (table_at old i).base
  pub end : known_end (table_at new i) ≡ known_end (table_at old i) + count
  pub front : 0 < count → (table_at new i).front ≡ known_end (table_at old i) + count
  pub still : count ≡ 0 → (table_at new i).front ≡ (table_at old i).front
  pub room : room_of new i + count ≡ room_of old i
  pub rooms : SameRooms i old new

-- at the budgets below `to`, an arc reads what the grid has at its head, where it is open
pub record ReadsAs (net : Net) (dest : ℕ) (arc : Arc) (to : ℕ) (tables : ℕ → NodeTable)
    : Type 0 where
  pub lower : is_closed arc.time ≡ false → (u : ℕ) → u + least_tick arc.time < to
      → lower_in dest tables arc.head u ≡ lo net dest arc.head u
  pub upper : is_closed arc.time ≡ false → (u : ℕ) → u + least_tick arc.time < to
      → upper_in dest tables arc.head u ≡ hi net dest arc.head u

-- the same of all arcs that leave node i
abbrev pub ReadsGrid : Net → ℕ → ℕ → ℕ → (ℕ → NodeTable) → Type 0
ReadsGrid net dest i to tables = (e : ℕ) (arc : Arc) → arc_at net e ≡ Some arc → arc.tail ≡ i
    → ReadsAs net dest arc to tables

-- the budgets of node i from its known end up to `to` can be filled: all that they read is known,
-- and there is room for them
pub record IsUnfilled (net : Net) (dest i from to : ℕ) (tables : TablesView) : Type 0 where
  pub valid : IsNet net
  pub node : IsNode net i
  pub off : i ≢ dest
  pub nodes : length tables.fronts ≡ net.nodes
  pub ready : AreReady net dest (table_at tables)
  pub start : from ≡ known_end (table_at tables i)
  pub some : from < to
  pub extent : IsExtent net dest (table_at tables) i to
  pub limit : to ≤ END_LIMIT
  pub room : to ≤ from + room_of tables i

-- the tables and the summers are those of the network's nodes and arcs
pub record AreSources {Z : Type 0} (sources : Sources Z) : Type 0 where
  pub target : IsTarget sources.target.now
  pub nodes : length sources.tables.now.fronts ≡ sources.target.now.network.now.nodes
  pub arcs : length sources.broad.now ≡ length sources.target.now.network.now.arcs

-- the sums of an arc at the budgets from one on below `to` can be made by its summers, which were
-- fed all that these read, and by the tables, which have it
pub record CanSum {Z : Type 0} (state : Z → SummerState) (sources : Sources Z)
    (number from to : ℕ) : Type 0 where
  pub fit : AreSources sources
  pub is_number : (1 ≤ number) × (number ≤ length sources.target.now.network.now.arcs)
  pub limit : to ≤ END_LIMIT
  pub fed : (arc : Arc) (two : Summers Z) → arc_at sources.target.now.network.now number ≡ Some arc
      → summers_at sources.broad.now number ≡ Some two
      → AreFed state sources.target.now.network.now sources.target.now.dest arc from to two
  pub reads : (arc : Arc) → arc_at sources.target.now.network.now number ≡ Some arc
      → ReadsAs sources.target.now.network.now sources.target.now.dest arc to
      (table_at sources.tables.now)
