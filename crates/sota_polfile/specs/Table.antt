-- What a policy file says, apart from its bytes.
use Rattle.std.specs.Prelude.{◌≢◌, ℕ, ◌+◌, ◌-◌, ◌≤◌, ◌==◌, if◌then◌else◌, nat_le, Option, None}
use Rattle.std.specs.Prelude.{List, length, map, All, option_and_then, slice_get}
use Rattle.std.specs.List.{find, sum_by}
use Rattle.std.specs.List.Sorted.{IsStrictlyIncreasing}
use Rattle.sota_units.specs.Limits.{NODE_LIMIT, BUDGET_LIMIT}
use Rattle.sota_units.specs.Rounding.{SCALE_LIMIT}
use Rattle.sota_polfile.specs.declared.entry.PolicyEntry.{PolicyEntry}
use Rattle.sota_polfile.specs.declared.head.PolicyHead.{PolicyHead}
use Rattle.sota_polfile.specs.declared.row.PolicyRow.{PolicyRow}
use Rattle.sota_polfile.specs.declared.row.RowHead.{RowHead}
use Rattle.sota_polfile.specs.Entry.{IsEntry}

-- a head, and a row for each node with entries
pub record Table : Type 0 where
  pub head : PolicyHead
  pub rows : List PolicyRow

pub record IsHead (head : PolicyHead) : Type 0 where
  pub nodes : (1 ≤ head.nodes) × (head.nodes ≤ NODE_LIMIT)
  pub dest : (1 ≤ head.dest) × (head.dest ≤ head.nodes)
  pub origin : (1 ≤ head.origin) × (head.origin ≤ head.nodes)
  pub budget : head.budget ≤ BUDGET_LIMIT
  pub scale : (1 ≤ head.scale) × (head.scale ≤ SCALE_LIMIT)

-- what a file says of a row before its entries
abbrev pub row_head : PolicyRow → RowHead
row_head row = record { node = row.node; first = row.first; count = length row.entries }

-- No row is the destination's, none is empty, and the last budget of each is at most the head's.
pub record IsRowHead (head : PolicyHead) (row : RowHead) : Type 0 where
  pub node : (1 ≤ row.node) × (row.node ≤ head.nodes)
  pub elsewhere : row.node ≢ head.dest
  pub some : 1 ≤ row.count
  pub last : row.first + row.count - 1 ≤ head.budget

pub record IsRow (head : PolicyHead) (row : PolicyRow) : Type 0 where
  pub numbers : IsRowHead head (row_head row)
  pub entries : All IsEntry row.entries

-- the nodes of rows, in the order of the rows
abbrev pub nodes : List PolicyRow → List ℕ
nodes rows = map (λ row. row.node) rows

pub record IsTable (table : Table) : Type 0 where
  pub head : IsHead table.head
  pub rows : All (IsRow table.head) table.rows
  pub rising : IsStrictlyIncreasing (nodes table.rows)

-- the number of entries
abbrev pub cells : Table → ℕ
cells table = sum_by (λ row. length row.entries) table.rows

-- the entry for a budget, of entries for the budgets first, first + 1 and so on
abbrev pub entry_from : {Entry : Type 0} → ℕ → List Entry → ℕ → Option Entry
entry_from first entries budget =
    if nat_le first budget then slice_get entries (budget - first) else None

-- the entry of a row for a budget
abbrev pub entry_for : PolicyRow → ℕ → Option PolicyEntry
entry_for row budget = entry_from row.first row.entries budget

-- the entry of a node for a budget; none where no row has that node and budget
abbrev pub entry_of : Table → ℕ → ℕ → Option PolicyEntry
entry_of table node budget =
    option_and_then (λ row. entry_for row budget) (find (λ row. row.node == node) table.rows)
