-- What stands in a list of bytes, by its place. Past the end of the bytes this says nothing of use.
use Rattle.std.specs.Prelude.{ℕ, zero, suc, ◌+◌, ◌*◌, List, map, take, drop, Option, Some, None}
use Rattle.std.specs.List.{range_with_len}
use Rattle.std.specs.Int.{Width, w32, w64, byte_len, from_be_bytes}
use Rattle.sota_polfile.specs.declared.entry.PolicyEntry.{PolicyEntry}
use Rattle.sota_polfile.specs.declared.head.PolicyHead.{PolicyHead}
use Rattle.sota_polfile.specs.declared.row.PolicyRow.{PolicyRow}
use Rattle.sota_polfile.specs.declared.row.RowHead.{RowHead}
use Rattle.sota_polfile.specs.Table.{Table}

unfoldable pub number_at : Width → List ℕ → ℕ → ℕ
number_at w bytes at = from_be_bytes w (take (byte_len w) (drop at bytes))

abbrev pub head_at : List ℕ → PolicyHead
head_at bytes = record {
  nodes = number_at w32 bytes 8;
  dest = number_at w32 bytes 12;
  origin = number_at w32 bytes 16;
  budget = number_at w32 bytes 20;
  scale = number_at w32 bytes 24;
}

-- how many rows the head claims
abbrev pub row_count : List ℕ → ℕ
row_count bytes = number_at w32 bytes 28

abbrev pub row_head_at : List ℕ → ℕ → RowHead
row_head_at bytes at = record {
  node = number_at w32 bytes at;
  first = number_at w32 bytes (at + 4);
  count = number_at w32 bytes (at + 8);
}

abbrev pub entry_at : List ℕ → ℕ → PolicyEntry
entry_at bytes at = record { arc = number_at w32 bytes at; value = number_at w64 bytes (at + 4) }

-- so many of what has this length, one after the other from a place on
abbrev pub all_at : {Item : Type 0} → (List ℕ → ℕ → Item) → ℕ → List ℕ → ℕ → ℕ → List Item
all_at value_at long bytes at count =
    map (λ i. value_at bytes (at + long * i)) (range_with_len 0 count)

abbrev pub entries_at : List ℕ → ℕ → ℕ → List PolicyEntry
entries_at bytes at count = all_at entry_at 12 bytes at count

-- the entries, of twelve bytes each, after a row head of twelve bytes
abbrev pub policy_row_at : List ℕ → ℕ → PolicyRow
policy_row_at bytes at = let row = row_head_at bytes at in record {
  node = row.node;
  first = row.first;
  entries = entries_at bytes (at + 12) row.count;
}

-- where row k stands, counted from 0: after the head and the rows before it
unfoldable pub start : List ℕ → ℕ → ℕ
start bytes zero = 32
start bytes (suc k) = let at = start bytes k in at + 12 + 12 * (row_head_at bytes at).count

-- the node of the row before row k
unfoldable pub node_before : List ℕ → ℕ → Option ℕ
node_before bytes zero = None
node_before bytes (suc k) = Some (row_head_at bytes (start bytes k)).node

abbrev pub rows_at : List ℕ → ℕ → ℕ → List PolicyRow
rows_at bytes k n = map (λ j. policy_row_at bytes (start bytes j)) (range_with_len k n)

-- the table of bytes that have no fault
unfoldable pub table_read : List ℕ → Table
table_read bytes = record { head = head_at bytes; rows = rows_at bytes 0 (row_count bytes) }
