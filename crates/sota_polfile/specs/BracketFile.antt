-- The bytes of a bracket file, and the first fault of bytes that are none. Numbers are big endian.
-- Places past the end of the bytes say nothing of use.
use Rattle.std.specs.Prelude.{ℕ, zero, suc, ◌+◌, ◌-◌, ◌*◌, ◌==◌, nat_le, nat_eq}
use Rattle.std.specs.Prelude.{Bool, not, ◌&&◌, ◌||◌, if◌then◌else◌, List, [], ◌∷◌, ◌++◌, length}
use Rattle.std.specs.Prelude.{map, codes, Option, None, Result}
use Rattle.std.specs.List.{flat_map, range_with_len, starts_with}
use Rattle.std.specs.Result.{result_map_both}
use Rattle.std.specs.Int.{w32, w64, to_be_bytes}
use Rattle.sota_units.specs.Limits.{BUDGET_LIMIT}
use Rattle.sota_polfile.specs.declared.any.AnyTable.{AnyTable}
use Rattle.sota_polfile.specs.declared.any.AnyTable.TheVariants.{One, Two}
use Rattle.sota_polfile.specs.declared.bracket_entry.BracketEntry.{BracketEntry}
use Rattle.sota_polfile.specs.declared.bracket_row.BracketRow.{BracketRow}
use Rattle.sota_polfile.specs.declared.fault.PolicyFault.{PolicyFault}
use Rattle.sota_polfile.specs.declared.fault.PolicyFault.TheVariants.{Range}
use Rattle.sota_polfile.specs.declared.head.PolicyHead.{PolicyHead}
use Rattle.sota_polfile.specs.declared.row.RowHead.{RowHead}
use Rattle.sota_polfile.specs.Table.{IsTable}
use Rattle.sota_polfile.specs.Bracket.{Bracket, IsBracket, part_head}
use Rattle.sota_polfile.specs.Spelling.{spelled_numbers, spelling}
use Rattle.sota_polfile.specs.Places.{number_at, head_at, all_at}
use Rattle.sota_polfile.specs.Faults.{is_head, fault_if, first_of, fault_or, policy_of}
use Rattle.sota_polfile.specs.Faults.{sized_fault, fault_among, file_fault}

-- ---- the spelling of a table

-- the first eight bytes of each policy file of version 2
abbrev pub bracket_magic : List ℕ
bracket_magic = codes "SOTAPOL2"

-- the 28 bytes before the parts of the nodes
unfoldable pub spelled_bracket_head : PolicyHead → List ℕ
spelled_bracket_head head = bracket_magic
    ++ spelled_numbers (head.nodes ∷ head.dest ∷ head.origin ∷ head.budget ∷ head.scale ∷ [])

unfoldable pub spelled_bracket_entry : BracketEntry → List ℕ
spelled_bracket_entry entry =
    to_be_bytes w32 entry.arc ++ (to_be_bytes w64 entry.lower ++ to_be_bytes w64 entry.upper)

unfoldable pub spelled_bracket_row : BracketRow → List ℕ
spelled_bracket_row row = spelled_numbers (row.first ∷ length row.entries ∷ [])
    ++ flat_map spelled_bracket_entry row.entries

unfoldable pub bracket_spelling : Bracket → List ℕ
bracket_spelling table =
    spelled_bracket_head table.head ++ flat_map spelled_bracket_row table.rows

-- ---- what stands at a place

-- the eight bytes before the entries of a node
abbrev pub part_at : List ℕ → ℕ → ℕ → RowHead
part_at bytes node at = record {
  node = node;
  first = number_at w32 bytes at;
  count = number_at w32 bytes (at + 4);
}

abbrev pub bracket_entry_at : List ℕ → ℕ → BracketEntry
bracket_entry_at bytes at = record {
  arc = number_at w32 bytes at;
  lower = number_at w64 bytes (at + 4);
  upper = number_at w64 bytes (at + 12);
}

abbrev pub bracket_entries_at : List ℕ → ℕ → ℕ → List BracketEntry
bracket_entries_at bytes at count = all_at bracket_entry_at 20 bytes at count

abbrev pub bracket_row_at : List ℕ → ℕ → BracketRow
bracket_row_at bytes at = record {
  first = number_at w32 bytes at;
  entries = bracket_entries_at bytes (at + 8) (number_at w32 bytes (at + 4));
}

-- where row k stands, counted from 0: after the head and the rows before it
unfoldable pub bracket_start : List ℕ → ℕ → ℕ
bracket_start bytes zero = 28
bracket_start bytes (suc k) =
    let at = bracket_start bytes k in at + 8 + 20 * number_at w32 bytes (at + 4)

abbrev pub bracket_rows_at : List ℕ → ℕ → ℕ → List BracketRow
bracket_rows_at bytes k n =
    map (λ j. bracket_row_at bytes (bracket_start bytes j)) (range_with_len k n)

-- the table of bytes that have no fault
unfoldable pub bracket_at : List ℕ → Bracket
bracket_at bytes =
    record { head = head_at bytes; rows = bracket_rows_at bytes 0 (head_at bytes).nodes }

-- ---- faults

-- the test of IsPart
abbrev pub is_part : PolicyHead → RowHead → Bool
is_part head part =
    (not (part.node == head.dest) || ((part.first == 0) && (part.count == 0)))
    && (nat_le part.first (BUDGET_LIMIT + 1)
    && ((part.count == 0) || nat_le (part.first + part.count - 1) head.budget))

-- the fault of a node's numbers
abbrev pub part_fault : PolicyHead → RowHead → Option PolicyFault
part_fault head part = fault_if (not (is_part head part)) (Range part.node)

-- the fault of the first row that has one, of rows for the nodes from this one on
unfoldable pub bracket_rows_fault : PolicyHead → ℕ → List BracketRow → Option PolicyFault
bracket_rows_fault head node [] = None
bracket_rows_fault head node (row ∷ rows) =
    first_of (part_fault head (part_head node row)
    ∷ bracket_rows_fault head (node + 1) rows ∷ [])

-- the fault of parts that are no table
unfoldable pub bracket_parts_fault : PolicyHead → List BracketRow → Option PolicyFault
bracket_parts_fault head rows =
    first_of (fault_if (not (is_head head)) (Range 0) ∷ bracket_rows_fault head 1 rows ∷ [])

abbrev pub bracket_row_fault_at : List ℕ → PolicyHead → ℕ → ℕ → Option PolicyFault
bracket_row_fault_at bytes head node at =
    let part = part_at bytes node at in
    sized_fault (length bytes) at 8 (part_fault head part) 20 part.count

abbrev pub bracket_row_fault : List ℕ → ℕ → Option PolicyFault
bracket_row_fault bytes k =
    bracket_row_fault_at bytes (head_at bytes) (k + 1) (bracket_start bytes k)

-- the fault of the first row that has one, of n rows from row k on
abbrev pub bracket_file_rows_fault : List ℕ → ℕ → ℕ → Option PolicyFault
bracket_file_rows_fault bytes k n = fault_among (bracket_row_fault bytes) k n

-- the first fault of bytes, none where they are a bracket file
abbrev pub first_bracket_fault : List ℕ → Option PolicyFault
first_bracket_fault bytes =
    let nodes = (head_at bytes).nodes in
    file_fault bracket_magic 28
    (bracket_file_rows_fault bytes 0 nodes) (bracket_start bytes nodes) bytes

-- what bytes mean as a bracket file: a table, or the first fault
unfoldable pub bracket_of : List ℕ → Result Bracket PolicyFault
bracket_of bytes = fault_or (first_bracket_fault bytes) (bracket_at bytes)

-- ---- both versions

-- the table of a policy file of either version
abbrev pub IsAny : AnyTable → Type 0
IsAny (One table) = IsTable table
IsAny (Two table) = IsBracket table

-- its one spelling
abbrev pub any_spelling : AnyTable → List ℕ
any_spelling (One table) = spelling table
any_spelling (Two table) = bracket_spelling table

-- what bytes mean: the first eight of them say which version it is, and bytes that begin as neither
-- have the fault of version 1
unfoldable pub any_of : List ℕ → Result AnyTable PolicyFault
any_of bytes =
    if starts_with nat_eq bytes bracket_magic
    then result_map_both Two (λ fault. fault) (bracket_of bytes)
    else result_map_both One (λ fault. fault) (policy_of bytes)
