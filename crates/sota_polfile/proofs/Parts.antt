-- Parts are a table exactly where no fault is found in them.
use Rattle.std.proofs.Common.{◌≡◌, ◌*◌, ◌≤◌, true, false, not, List, [], ◌∷◌, length, map, Some, None, All, sym, ◌∙◌, arith}
use Rattle.std.proofs.lemmas.Bool.{not_from_true, not_from_false}
use Rattle.std.proofs.lemmas.List.Elements.{All-from_recursion, recursion_from_All, All-weaker}
use Rattle.std.proofs.lemmas.List.Sums.{sum_by-le}
use Rattle.std.specs.List.{AllByRecursion}
use Rattle.sota_polfile.specs.declared.fault.PolicyFault.{PolicyFault}
use Rattle.sota_polfile.specs.declared.fault.PolicyFault.TheVariants.{Range}
use Rattle.sota_polfile.specs.declared.head.PolicyHead.{PolicyHead}
use Rattle.sota_polfile.specs.declared.row.PolicyRow.{PolicyRow}
use Rattle.sota_polfile.specs.Entry.{IsEntry}
use Rattle.sota_polfile.specs.Table.{Table, IsHead, IsRowHead, IsRow, IsTable, row_head, nodes, cells}
use Rattle.sota_polfile.specs.Faults.{is_head, rows_fault, parts_fault}
use Rattle.sota_polfile.proofs.Rules.{fit_head, first_of_found, first_of_passed, first_of_one, AreRows, increasing, all_rise, rows_fit, fit_rows, rows_bound}

pub head_at_fault : (head : PolicyHead) (rows : List PolicyRow) → is_head head ≡ false → parts_fault head rows ≡ Some (Range 0)
unfolding parts_fault
head_at_fault head rows e = first_of_found (not (is_head head)) (Range 0) _ (not_from_false _ e)

pub head_passes : (head : PolicyHead) (rows : List PolicyRow) → is_head head ≡ true → parts_fault head rows ≡ rows_fault head None 1 (map row_head rows)
unfolding parts_fault
head_passes head rows e = first_of_passed (not (is_head head)) (Range 0) _ (not_from_true _ e) ∙ first_of_one _

rows_are : (head : PolicyHead) (rows : List PolicyRow) → AllByRecursion (λ row. IsRowHead head (row_head row)) rows → AllByRecursion (λ row. All IsEntry row.entries) rows → AllByRecursion (IsRow head) rows
rows_are head [] numbers entries = tt
rows_are head (row ∷ rows) numbers entries = (record { numbers = numbers.0; entries = entries.0 }, rows_are head rows numbers.1 entries.1)

heads_are : (head : PolicyHead) (rows : List PolicyRow) → AllByRecursion (IsRow head) rows → AllByRecursion (λ row. IsRowHead head (row_head row)) rows
heads_are head [] h = tt
heads_are head (row ∷ rows) h = (h.0.numbers, heads_are head rows h.1)

-- the rows of a table, one by one
pub table_rows : (table : Table) → IsTable table → AreRows table.head None table.rows
table_rows table h = record {
  numbers = heads_are table.head table.rows (recursion_from_All (IsRow table.head) table.rows h.rows);
  rising = all_rise (nodes table.rows) h.rising;
}

pub is_table : (head : PolicyHead) (rows : List PolicyRow) → IsHead head → AreRows head None rows → All (λ row. All IsEntry row.entries) rows → IsTable (record { head = head; rows = rows })
is_table head rows fits are entries = record {
  head = fits;
  rows = All-from_recursion (IsRow head) rows (rows_are head rows are.numbers (recursion_from_All (λ row. All IsEntry row.entries) rows entries));
  rising = increasing None (nodes rows) are.rising;
}

pub parts_are : (head : PolicyHead) (rows : List PolicyRow) → IsHead head → None ≡ rows_fault head None 1 (map row_head rows) → All (λ row. All IsEntry row.entries) rows → IsTable (record { head = head; rows = rows })
parts_are head rows fits none entries = is_table head rows fits (rows_fit head None 1 rows (sym none)) entries

pub faulty : (head : PolicyHead) (rows : List PolicyRow) (fault : PolicyFault) → Some fault ≡ parts_fault head rows → IsTable (record { head = head; rows = rows }) → ⊥
faulty head rows fault e h =
    let passes = head_passes head rows (fit_head head h.head) in
    let none = fit_rows head None 1 rows (table_rows (record { head = head; rows = rows }) h) in
    cc

-- ---- how large a table is

pub row_bound : (head : PolicyHead) (row : PolicyRow) → IsHead head → IsRow head row → length row.entries ≤ 65536
row_bound head row fits is = omega (arith, fits.budget, is.numbers.some, is.numbers.last)

pub table_bound : (table : Table) → IsTable table → length table.rows ≤ table.head.nodes
table_bound table h = omega (arith, rows_bound table.head None table.rows (table_rows table h) (omega arith))

pub cells_bound : (table : Table) → IsTable table → cells table ≤ 65536 * length table.rows
cells_bound table h =
    let each : All (λ row. length row.entries ≤ 65536) table.rows = All-weaker (IsRow table.head) (λ row. length row.entries ≤ 65536) (λ row is. row_bound table.head row h.head is) table.rows h.rows in
    omega (arith, sum_by-le (λ row. length row.entries) 65536 table.rows each)
