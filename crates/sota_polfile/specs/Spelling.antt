-- The bytes of a table, its one spelling. Numbers are big endian.
use Rattle.std.specs.Prelude.{ℕ, List, [], ◌∷◌, ◌++◌, length, codes}
use Rattle.std.specs.List.{flat_map}
use Rattle.std.specs.Int.{w32, w64, to_be_bytes}
use Rattle.sota_polfile.specs.declared.entry.PolicyEntry.{PolicyEntry}
use Rattle.sota_polfile.specs.declared.head.PolicyHead.{PolicyHead}
use Rattle.sota_polfile.specs.declared.row.PolicyRow.{PolicyRow}
use Rattle.sota_polfile.specs.Table.{Table}

-- the first eight bytes of each policy file of version 1
abbrev pub magic : List ℕ
magic = codes "SOTAPOL1"

-- numbers of four bytes, one after the other
abbrev pub spelled_numbers : List ℕ → List ℕ
spelled_numbers ns = flat_map (λ n. to_be_bytes w32 n) ns

-- the 32 bytes before the rows
unfoldable pub spelled_head : PolicyHead → ℕ → List ℕ
spelled_head head rows = magic
    ++ spelled_numbers (head.nodes ∷ head.dest ∷ head.origin ∷ head.budget ∷ head.scale ∷ rows ∷ [])

unfoldable pub spelled_entry : PolicyEntry → List ℕ
spelled_entry entry = to_be_bytes w32 entry.arc ++ to_be_bytes w64 entry.value

unfoldable pub spelled_row : PolicyRow → List ℕ
spelled_row row = spelled_numbers (row.node ∷ row.first ∷ length row.entries ∷ [])
    ++ flat_map spelled_entry row.entries

unfoldable pub spelling : Table → List ℕ
spelling table = spelled_head table.head (length table.rows) ++ flat_map spelled_row table.rows

-- the length of a table's file
abbrev pub file_len : Table → ℕ
file_len table = length (spelling table)
