-- The first fault of bytes that are no policy file, and of parts that are no table.
use Rattle.std.specs.Prelude.{ℕ, ◌+◌, ◌-◌, ◌*◌, ◌/◌, ◌==◌, nat_le, nat_lt, nat_eq, Bool, false}
use Rattle.std.specs.Prelude.{not, ◌&&◌, if◌then◌else◌, List, [], ◌∷◌, length, map, Option, Some}
use Rattle.std.specs.Prelude.{None, Result, Ok, Err}
use Rattle.std.specs.Option.{option_map_or}
use Rattle.std.specs.List.{starts_with, range_with_len}
use Rattle.sota_units.specs.Rounding.{SCALE_LIMIT}
use Rattle.sota_polfile.specs.declared.fault.PolicyFault.{PolicyFault}
use Rattle.sota_polfile.specs.declared.fault.PolicyFault.TheVariants.{Magic, Truncated, Order}
use Rattle.sota_polfile.specs.declared.fault.PolicyFault.TheVariants.{Range, Trailing}
use Rattle.sota_polfile.specs.declared.head.PolicyHead.{PolicyHead}
use Rattle.sota_polfile.specs.declared.row.PolicyRow.{PolicyRow}
use Rattle.sota_polfile.specs.declared.row.RowHead.{RowHead}
use Rattle.sota_polfile.specs.Table.{Table, row_head}
use Rattle.sota_units.specs.Limits.{NODE_LIMIT, BUDGET_LIMIT}
use Rattle.sota_polfile.specs.Spelling.{magic}
use Rattle.sota_polfile.specs.Places.{head_at, row_count, row_head_at, start, node_before}
use Rattle.sota_polfile.specs.Places.{table_read}

-- the test of IsHead
abbrev pub is_head : PolicyHead → Bool
is_head head =
    (nat_le 1 head.nodes && nat_le head.nodes NODE_LIMIT)
    && ((nat_le 1 head.dest && nat_le head.dest head.nodes)
    && ((nat_le 1 head.origin && nat_le head.origin head.nodes)
    && (nat_le head.budget BUDGET_LIMIT
    && (nat_le 1 head.scale && nat_le head.scale SCALE_LIMIT))))

-- the test of IsRowHead
abbrev pub is_row_head : PolicyHead → RowHead → Bool
is_row_head head row =
    (nat_le 1 row.node && nat_le row.node head.nodes)
    && (not (row.node == head.dest)
    && (nat_le 1 row.count
    && nat_le (row.first + row.count - 1) head.budget))

abbrev pub fault_if : Bool → PolicyFault → Option PolicyFault
fault_if found fault = if found then Some fault else None

-- the first fault, where these are looked for in turn
abbrev pub first_of : List (Option PolicyFault) → Option PolicyFault
first_of [] = None
first_of (None ∷ more) = first_of more
first_of (Some fault ∷ more) = Some fault

-- a row does not come after the row before it
abbrev pub is_unordered : Option ℕ → ℕ → Bool
is_unordered before node = option_map_or (λ other. nat_le node other) before false

-- the fault of a row's numbers, after a row of the node before; rows are counted from 1
unfoldable pub numbers_fault : PolicyHead → Option ℕ → ℕ → RowHead → Option PolicyFault
numbers_fault head before number row =
    first_of (fault_if (is_unordered before row.node) (Order number)
    ∷ fault_if (not (is_row_head head row)) (Range number) ∷ [])

-- the fault of the first row that has one, counted from this number
unfoldable pub rows_fault : PolicyHead → Option ℕ → ℕ → List RowHead → Option PolicyFault
rows_fault head before number [] = None
rows_fault head before number (row ∷ rows) =
    first_of (numbers_fault head before number row
    ∷ rows_fault head (Some row.node) (number + 1) rows ∷ [])

-- the fault of parts that are no table
unfoldable pub parts_fault : PolicyHead → List PolicyRow → Option PolicyFault
parts_fault head rows =
    first_of (fault_if (not (is_head head)) (Range 0)
    ∷ rows_fault head None 1 (map row_head rows) ∷ [])

-- the fault of a row at this place in bytes of this length: so many bytes and the row's numbers
-- stand before its entries, which are of one size
unfoldable pub sized_fault : ℕ → ℕ → ℕ → Option PolicyFault → ℕ → ℕ → Option PolicyFault
sized_fault long at front numbers size count =
    first_of (fault_if (nat_lt long (at + front)) (Truncated at)
    ∷ numbers
    ∷ fault_if (nat_lt long (at + front + size * count))
    (Truncated (at + front + size * ((long - (at + front)) / size)))
    ∷ [])

abbrev pub row_fault_at : List ℕ → PolicyHead → ℕ → Option ℕ → ℕ → Option PolicyFault
row_fault_at bytes head at before number =
    let row = row_head_at bytes at in
    sized_fault (length bytes) at 12 (numbers_fault head before number row) 12 row.count

abbrev pub row_fault : List ℕ → ℕ → Option PolicyFault
row_fault bytes k = row_fault_at bytes (head_at bytes) (start bytes k) (node_before bytes k) (k + 1)

-- the first fault that there is at n numbers from k on
unfoldable pub fault_among : (ℕ → Option PolicyFault) → ℕ → ℕ → Option PolicyFault
fault_among fault k n = first_of (map fault (range_with_len k n))

-- the fault of the first row that has one, of n rows from row k on
abbrev pub file_rows_fault : List ℕ → ℕ → ℕ → Option PolicyFault
file_rows_fault bytes k n = fault_among (row_fault bytes) k n

-- the first fault of what stands before the rows: bytes begin with the magic, and have a head of
-- this length
unfoldable pub head_fault : List ℕ → ℕ → List ℕ → Option PolicyFault
head_fault begin front bytes =
    first_of (fault_if (not (starts_with nat_eq bytes begin)) Magic
    ∷ fault_if (nat_lt (length bytes) front) (Truncated 0)
    ∷ fault_if (not (is_head (head_at bytes))) (Range 0)
    ∷ [])

-- the first fault of bytes: after such a head stand rows with this first fault up to this end
unfoldable pub file_fault : List ℕ → ℕ → Option PolicyFault → ℕ → List ℕ → Option PolicyFault
file_fault begin front rows end bytes =
    first_of (head_fault begin front bytes
    ∷ rows
    ∷ fault_if (nat_lt end (length bytes)) (Trailing end)
    ∷ [])

-- none where they are a policy file
abbrev pub first_fault : List ℕ → Option PolicyFault
first_fault bytes =
    let count = row_count bytes in
    file_fault magic 32 (file_rows_fault bytes 0 count) (start bytes count) bytes

-- the fault that was found, or this value where none was
abbrev pub fault_or : {T : Type 0} → Option PolicyFault → T → Result T PolicyFault
fault_or None value = Ok value
fault_or (Some fault) value = Err fault

-- what bytes mean: a table, or the first fault
unfoldable pub policy_of : List ℕ → Result Table PolicyFault
policy_of bytes = fault_or (first_fault bytes) (table_read bytes)

-- The first fault of the first bytes of a policy file, so many that the file is not whole.
abbrev pub cut_of : ℕ → PolicyFault
cut_of len =
    if nat_lt len 8 then Magic else
    if nat_lt len 32 then Truncated 0 else Truncated (32 + 12 * ((len - 32) / 12))
