-- The policy that a planner writes: the grid over the region of its ask.
use Rattle.std.specs.Prelude.{ℕ, ◌≡◌, ◌≢◌, ◌+◌, ◌<◌, Bool, true, List, length, slice_get}
use Rattle.std.specs.Prelude.{Option, Some, None, unwrap_or, if◌then◌else◌}
use Rattle.sota_network.specs.Network.{Net}
use Rattle.sota_network.specs.Grid.{lo, choice}
use Rattle.sota_network.specs.Walks.{IsLeastTime}
use Rattle.sota_network.specs.Reach.{in_region}
use Rattle.sota_polfile.specs.Table.{Table, entry_of}
use Rattle.sota_polfile.specs.declared.entry.PolicyEntry.{PolicyEntry}
use Rattle.sota_polfile.specs.declared.head.PolicyHead.{PolicyHead}
use Rattle.sota_polfile.specs.declared.row.PolicyRow.{PolicyRow}
use Rattle.sota_check.specs.Certified.{Entries}

-- the choice, 0 for none, and the lower value
abbrev pub grid_entry : Net → ℕ → ℕ → ℕ → PolicyEntry
grid_entry net dest i t =
    record { arc = unwrap_or (choice net dest i t) 0; value = lo net dest i t }

abbrev pub entry_if : Bool → PolicyEntry → Option PolicyEntry
entry_if inside entry = if inside then Some entry else None

-- the head of an ask's policy
abbrev pub ask_head : Net → ℕ → ℕ → ℕ → PolicyHead
ask_head net origin dest last = record {
  nodes = net.nodes;
  dest = dest;
  origin = origin;
  budget = last;
  scale = net.scale;
}

-- the head is the ask's, and the entries are the grid's, exactly in the region
pub record IsPlannedBy (net : Net) (origin dest last : ℕ) (head : PolicyHead) (plan : Entries)
    : Type 0 where
  pub head_is : head ≡ ask_head net origin dest last
  pub entries : (i t : ℕ) → plan i t
      ≡ entry_if (in_region net origin dest last i t) (grid_entry net dest i t)

abbrev pub IsPlannedPolicy : Net → ℕ → ℕ → ℕ → Table → Type 0
IsPlannedPolicy net origin dest last table =
    IsPlannedBy net origin dest last table.head (entry_of table)

-- the same, row by row: each entry that stands in a row is the grid's and in the region, and each
-- node and budget of the region has an entry in some row
pub record AreGridRows (net : Net) (origin dest last : ℕ) (rows : List PolicyRow) : Type 0 where
  pub inside : (k j : ℕ) (row : PolicyRow) (entry : PolicyEntry)
      → slice_get rows k ≡ Some row → slice_get row.entries j ≡ Some entry
      → (in_region net origin dest last row.node (row.first + j) ≡ true)
      × (entry ≡ grid_entry net dest row.node (row.first + j))
  pub covered : (i t : ℕ) → in_region net origin dest last i t ≡ true
      → (k : ℕ) × (row : PolicyRow) × (j : ℕ) × (slice_get rows k ≡ Some row) × (row.node ≡ i)
      × (t ≡ row.first + j) × (j < length row.entries)

-- a row as the planner's file has it: the budgets from the least time to the destination up to what
-- the least time from the origin leaves of the last one
pub record IsGridRow (net : Net) (origin dest last : ℕ) (row : PolicyRow) : Type 0 where
  pub elsewhere : row.node ≢ dest
  pub onward : IsLeastTime net dest row.node dest (Some row.first)
  pub back : ℕ
  pub came : IsLeastTime net dest origin row.node (Some back)
  pub count : row.first + length row.entries + back ≡ last + 1
  pub entries : (j : ℕ) (entry : PolicyEntry) → slice_get row.entries j ≡ Some entry
      → entry ≡ grid_entry net dest row.node (row.first + j)

-- the planner's file: the ask's head, and such a row for each node with a budget in the region
pub record IsPlanFile (net : Net) (origin dest last : ℕ) (table : Table) : Type 0 where
  pub head : table.head ≡ ask_head net origin dest last
  pub rows : (k : ℕ) (row : PolicyRow) → slice_get table.rows k ≡ Some row
      → IsGridRow net origin dest last row
  pub nodes : (i t : ℕ) → in_region net origin dest last i t ≡ true
      → (k : ℕ) × (row : PolicyRow) × (slice_get table.rows k ≡ Some row) × (row.node ≡ i)
