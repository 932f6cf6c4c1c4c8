-- What a bracket file, a policy file of version 2, says apart from its bytes.
use Rattle.std.specs.Prelude.{ℕ, zero, suc, ◌≡◌, ◌+◌, ◌-◌, ◌≤◌, List, length, All}
use Rattle.std.specs.Prelude.{slice_get, option_and_then, Option, None, Some}
use Rattle.std.specs.List.{sum_by}
use Rattle.sota_units.specs.Limits.{BUDGET_LIMIT}
use Rattle.sota_polfile.specs.declared.bracket_entry.BracketEntry.{BracketEntry}
use Rattle.sota_polfile.specs.declared.bracket_row.BracketRow.{BracketRow}
use Rattle.sota_polfile.specs.declared.head.PolicyHead.{PolicyHead}
use Rattle.sota_polfile.specs.declared.row.RowHead.{RowHead}
use Rattle.sota_polfile.specs.Entry.{IsBracketEntry}
use Rattle.sota_polfile.specs.Table.{IsHead, entry_from}

-- a head, and a row for each node from 1 to the head's nodes, in their order
pub record Bracket : Type 0 where
  pub head : PolicyHead
  pub rows : List BracketRow

-- what a file says of a node before its entries
abbrev pub part_head : ℕ → BracketRow → RowHead
part_head node row = record { node = node; first = row.first; count = length row.entries }

-- The destination has no entry. Another node has a first budget, which may be that after the last
-- one of all, and the last budget with an entry is at most the head's.
pub record IsPart (head : PolicyHead) (part : RowHead) : Type 0 where
  pub dest : part.node ≡ head.dest → (part.first ≡ 0) × (part.count ≡ 0)
  pub first : part.first ≤ BUDGET_LIMIT + 1
  pub last : 1 ≤ part.count → part.first + part.count - 1 ≤ head.budget

pub record IsBracketRow (head : PolicyHead) (node : ℕ) (row : BracketRow) : Type 0 where
  pub numbers : IsPart head (part_head node row)
  pub entries : All IsBracketEntry row.entries

pub record IsBracket (table : Bracket) : Type 0 where
  pub head : IsHead table.head
  pub size : length table.rows ≡ table.head.nodes
  pub rows : (k : ℕ) (row : BracketRow) → slice_get table.rows k ≡ Some row
      → IsBracketRow table.head (k + 1) row

-- the number of entries
abbrev pub bracket_cells : Bracket → ℕ
bracket_cells table = sum_by (λ row. length row.entries) table.rows

-- the row of a node; none where no node has this number
abbrev pub bracket_row_of : Bracket → ℕ → Option BracketRow
bracket_row_of table zero = None
bracket_row_of table (suc k) = slice_get table.rows k

-- the entry of a node for a budget; none where the node has none for it
abbrev pub bracket_entry_of : Bracket → ℕ → ℕ → Option BracketEntry
bracket_entry_of table node budget =
    option_and_then (λ row. entry_from row.first row.entries budget) (bracket_row_of table node)
