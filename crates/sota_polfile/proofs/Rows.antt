-- Rows that were spelled in a file stand there without fault, and rows without fault are what they spell.
use Rattle.std.proofs.Common.{◌≡◌, ℕ, zero, suc, ◌+◌, ◌-◌, ◌*◌, ◌/◌, ◌^◌, ◌≤◌, ◌<◌, false, List, [], ◌∷◌, ◌++◌, length, drop, Option, Some, None, refl, sym, ap, ◌∙◌, append_assoc, add-one, arith}
use Rattle.std.specs.List.{flat_map, sum_by, AllByRecursion}
use Rattle.std.specs.Int.{w32, to_be_bytes}
use Rattle.std.proofs.lemmas.List.{length-append}
use Rattle.std.proofs.lemmas.List.Sums.{sum_by-cons}
use Rattle.std.proofs.lemmas.List.Elements.{All-from_recursion, recursion_from_All}
use Rattle.std.proofs.lemmas.List.FromFn.{length-map-range_with_len}
use Rattle.sota_polfile.specs.declared.fault.PolicyFault.TheVariants.{Truncated}
use Rattle.sota_polfile.specs.declared.head.PolicyHead.{PolicyHead}
use Rattle.sota_polfile.specs.declared.row.PolicyRow.{PolicyRow}
use Rattle.sota_polfile.specs.declared.row.RowHead.{RowHead}
use Rattle.sota_polfile.specs.Entry.{IsEntry}
use Rattle.sota_polfile.specs.Table.{IsHead, IsRowHead, IsRow, row_head, nodes}
use Rattle.sota_polfile.specs.Spelling.{spelled_numbers, spelled_entry, spelled_row}
use Rattle.sota_polfile.specs.Places.{number_at, head_at, row_head_at, entries_at, policy_row_at, start, node_before, rows_at}
use Rattle.sota_polfile.specs.Faults.{is_unordered, row_fault_at, row_fault, file_rows_fault, numbers_fault}
use Rattle.sota_polfile.proofs.Numbers.{IsBytes, wide32, moved, room, number_again, number_takes, number_below}
use Rattle.sota_polfile.proofs.Entries.{length-entries, entries_again, entries_take}
use Rattle.sota_polfile.proofs.FileFaults.{sized_none, sized_cut, sized_passes, among_parts}
use Rattle.sota_polfile.proofs.Runs.{AllStand, none_stand, more_stand, AllSpelled, none_spelled, more_spelled}
use Rattle.sota_polfile.proofs.Rules.{Rises, numbers_fit, fit_numbers}

-- the numbers of a row have four bytes each
pub record Fits (row : RowHead) : Type 0 where
  pub node : row.node < 2 ^ 32
  pub first : row.first < 2 ^ 32
  pub count : row.count < 2 ^ 32

pub row_fits : (head : PolicyHead) (row : RowHead) → IsHead head → IsRowHead head row → Fits row
row_fits head row fits is = record {
  node = omega (arith, is.node.1, fits.nodes.1);
  first = omega (arith, is.last, fits.budget, is.some);
  count = omega (arith, is.last, fits.budget, is.some);
}

-- ---- one row

pub row_head_again : (bytes rest : List ℕ) (at : ℕ) (row : RowHead) → Fits row → drop at bytes ≡ spelled_numbers (row.node ∷ row.first ∷ row.count ∷ []) ++ rest → (row_head_at bytes at ≡ row) × (drop (at + 12) bytes ≡ rest)
row_head_again bytes rest at row fits e =
    let node : number_at w32 bytes at ≡ row.node = number_again w32 (2 ^ 32) wide32 bytes (spelled_numbers (row.first ∷ row.count ∷ []) ++ rest) at row.node fits.node e in
    let first : number_at w32 bytes (at + 4) ≡ row.first = number_again w32 (2 ^ 32) wide32 bytes (spelled_numbers (row.count ∷ []) ++ rest) (at + 4) row.first fits.first (moved at 4 bytes _ e) in
    let count : number_at w32 bytes (at + 8) ≡ row.count = number_again w32 (2 ^ 32) wide32 bytes rest (at + 8) row.count fits.count (moved at 8 bytes _ e) in
    (rw (node, first, count) refl, moved at 12 bytes _ e)

pub row_head_takes : (bytes : List ℕ) (at : ℕ) → IsBytes bytes → at + 12 ≤ length bytes → (drop at bytes ≡ spelled_numbers ((row_head_at bytes at).node ∷ (row_head_at bytes at).first ∷ (row_head_at bytes at).count ∷ []) ++ drop (at + 12) bytes) × Fits (row_head_at bytes at)
row_head_takes bytes at fits within =
    let node : drop at bytes ≡ to_be_bytes w32 (number_at w32 bytes at) ++ drop (at + 4) bytes = number_takes w32 (2 ^ 32) wide32 bytes at fits (omega arith) in
    let first : drop (at + 4) bytes ≡ to_be_bytes w32 (number_at w32 bytes (at + 4)) ++ drop (at + 4 + 4) bytes = number_takes w32 (2 ^ 32) wide32 bytes (at + 4) fits (omega arith) in
    let count : drop (at + 8) bytes ≡ to_be_bytes w32 (number_at w32 bytes (at + 8)) ++ drop (at + 8 + 4) bytes = number_takes w32 (2 ^ 32) wide32 bytes (at + 8) fits (omega arith) in
    let eight : at + 4 + 4 ≡ at + 8 = omega arith in
    let twelve : at + 8 + 4 ≡ at + 12 = omega arith in
    let tail : drop (at + 4) bytes ≡ to_be_bytes w32 (number_at w32 bytes (at + 4)) ++ (to_be_bytes w32 (number_at w32 bytes (at + 8)) ++ drop (at + 12) bytes) = rw eight at first ∙ ap (λ (text : List ℕ). to_be_bytes w32 (number_at w32 bytes (at + 4)) ++ text) (rw twelve at count) in
    (node ∙ ap (λ (text : List ℕ). to_be_bytes w32 (number_at w32 bytes at) ++ text) tail, record { node = number_below w32 (2 ^ 32) wide32 bytes at fits; first = number_below w32 (2 ^ 32) wide32 bytes (at + 4) fits; count = number_below w32 (2 ^ 32) wide32 bytes (at + 8) fits })

pub length-row : (row : PolicyRow) → length (spelled_row row) ≡ 12 + 12 * length row.entries
unfolding spelled_row
length-row row = omega (arith, length-entries row.entries, length-append (spelled_numbers (row.node ∷ row.first ∷ length row.entries ∷ [])) (flat_map spelled_entry row.entries))

-- a row that was spelled at a place
pub record Stands (bytes rest : List ℕ) (at : ℕ) (row : PolicyRow) : Type 0 where
  pub numbers : row_head_at bytes at ≡ row_head row
  pub is : policy_row_at bytes at ≡ row
  pub behind : drop (at + 12 + 12 * length row.entries) bytes ≡ rest
  pub within : at + 12 + 12 * length row.entries ≤ length bytes

pub row_again : (bytes rest : List ℕ) (at : ℕ) (row : PolicyRow) → Fits (row_head row) → AllByRecursion IsEntry row.entries → drop at bytes ≡ spelled_row row ++ rest → Stands bytes rest at row
unfolding spelled_row
row_again bytes rest at row fits are e =
    let regrouped = e ∙ append_assoc (spelled_numbers (row.node ∷ row.first ∷ length row.entries ∷ [])) (flat_map spelled_entry row.entries) rest in
    let head = row_head_again bytes (flat_map spelled_entry row.entries ++ rest) at (row_head row) fits regrouped in
    let zero : at + 12 + 12 * 0 ≡ at + 12 = omega arith in
    let behind : drop (at + 12 + 12 * 0) bytes ≡ flat_map spelled_entry row.entries ++ rest = rw zero head.1 in
    let entries = entries_again bytes (at + 12) 0 row.entries rest are behind in
    let is : entries_at bytes (at + 12) (length row.entries) ≡ row.entries = entries.0 in
    let count : (row_head_at bytes at).count ≡ length row.entries = ap (λ (r : RowHead). r.count) head.0 in
    let node : (row_head_at bytes at).node ≡ row.node = ap (λ (r : RowHead). r.node) head.0 in
    let first : (row_head_at bytes at).first ≡ row.first = ap (λ (r : RowHead). r.first) head.0 in
    let end : at + 12 + 12 * (0 + length row.entries) ≡ at + 12 + 12 * length row.entries = omega arith in
    record {
      numbers = head.0;
      is = rw (count, node, first, is) refl;
      behind = rw end at entries.1;
      within = omega (arith, room at (12 + 12 * length row.entries) bytes (spelled_row row ++ rest) e (omega arith) (omega (arith, length-row row, length-append (spelled_row row) rest)));
    }

pub row_takes : (bytes : List ℕ) (at : ℕ) → IsBytes bytes → at + 12 + 12 * (row_head_at bytes at).count ≤ length bytes → (drop at bytes ≡ spelled_row (policy_row_at bytes at) ++ drop (at + 12 + 12 * (row_head_at bytes at).count) bytes) × AllByRecursion IsEntry (policy_row_at bytes at).entries
unfolding spelled_row
row_takes bytes at fits within =
    let row = row_head_at bytes at in
    let head = row_head_takes bytes at fits (omega arith) in
    let start : at + 12 + 12 * 0 ≡ at + 12 = omega arith in
    let end : at + 12 + 12 * (0 + row.count) ≡ at + 12 + 12 * row.count = omega arith in
    let entries = entries_take bytes fits (at + 12) 0 row.count (rw end within) in
    let are = entries_at bytes (at + 12) row.count in
    let behind : drop (at + 12) bytes ≡ flat_map spelled_entry are ++ drop (at + 12 + 12 * row.count) bytes = ap (λ (p : ℕ). drop p bytes) (sym start) ∙ entries.0 ∙ ap (λ (p : ℕ). flat_map spelled_entry are ++ drop p bytes) end in
    let count : length are ≡ row.count = length-map-range_with_len _ 0 row.count in
    let text : drop at bytes ≡ spelled_numbers (row.node ∷ row.first ∷ row.count ∷ []) ++ (flat_map spelled_entry are ++ drop (at + 12 + 12 * row.count) bytes) = head.0 ∙ ap (λ (t : List ℕ). spelled_numbers (row.node ∷ row.first ∷ row.count ∷ []) ++ t) behind in
    (rw count (text ∙ sym (append_assoc (spelled_numbers (row.node ∷ row.first ∷ row.count ∷ [])) (flat_map spelled_entry are) (drop (at + 12 + 12 * row.count) bytes))), entries.1)

-- ---- faults of rows

-- a row that stands whole, with its numbers in order and in range, has no fault
pub no_fault : (bytes : List ℕ) (head : PolicyHead) (at : ℕ) (before : Option ℕ) (number : ℕ) (row : RowHead) → row_head_at bytes at ≡ row → is_unordered before row.node ≡ false → IsRowHead head row → at + 12 + 12 * row.count ≤ length bytes → row_fault_at bytes head at before number ≡ None
no_fault bytes head at before number row is up fits within =
    let count : (row_head_at bytes at).count ≡ row.count = ap (λ (r : RowHead). r.count) is in
    let good : numbers_fault head before number (row_head_at bytes at) ≡ None = rw is (fit_numbers head before number row up fits) in
    sized_none (length bytes) at 12 (numbers_fault head before number (row_head_at bytes at)) 12 (row_head_at bytes at).count good (rw count within)

-- the bytes end inside an entry
pub in_entries : (bytes : List ℕ) (head : PolicyHead) (at : ℕ) (before : Option ℕ) (number : ℕ) (row : RowHead) → row_head_at bytes at ≡ row → numbers_fault head before number row ≡ None → at + 12 ≤ length bytes → length bytes < at + 12 + 12 * row.count → row_fault_at bytes head at before number ≡ Some (Truncated (at + 12 + 12 * ((length bytes - (at + 12)) / 12)))
in_entries bytes head at before number row is good whole short =
    let count : (row_head_at bytes at).count ≡ row.count = ap (λ (r : RowHead). r.count) is in
    sized_cut (length bytes) at 12 (numbers_fault head before number (row_head_at bytes at)) 12 (row_head_at bytes at).count (rw is good) whole (rw count short)

-- what a row without fault keeps to
pub record Passes (bytes : List ℕ) (head : PolicyHead) (at : ℕ) (before : Option ℕ) : Type 0 where
  pub up : is_unordered before (row_head_at bytes at).node ≡ false
  pub fits : IsRowHead head (row_head_at bytes at)
  pub within : at + 12 + 12 * (row_head_at bytes at).count ≤ length bytes

pub passes : (bytes : List ℕ) (head : PolicyHead) (at : ℕ) (before : Option ℕ) (number : ℕ) → row_fault_at bytes head at before number ≡ None → Passes bytes head at before
passes bytes head at before number e =
    let row = row_head_at bytes at in
    let parts = sized_passes (length bytes) at 12 (numbers_fault head before number row) 12 row.count e in
    let fits = numbers_fit head before number row parts.0 in
    record { up = fits.0; fits = fits.1; within = parts.1 }

pub start_after : (bytes : List ℕ) (k : ℕ) → start bytes (k + 1) ≡ start bytes k + 12 + 12 * (row_head_at bytes (start bytes k)).count
unfolding start
start_after bytes k = rw add-one refl

pub node_before_after : (bytes : List ℕ) (k : ℕ) → node_before bytes (k + 1) ≡ Some (row_head_at bytes (start bytes k)).node
unfolding node_before
node_before_after bytes k = rw add-one refl

-- ---- rows one after the other

pub rows_again : (bytes rest : List ℕ) (k : ℕ) (rows : List PolicyRow) → IsHead (head_at bytes) → AllByRecursion (IsRow (head_at bytes)) rows → Rises (node_before bytes k) (nodes rows) → drop (start bytes k) bytes ≡ flat_map spelled_row rows ++ rest → AllStand bytes (start bytes) (λ j. policy_row_at bytes (start bytes j)) (row_fault bytes) rest k rows
rows_again bytes rest k [] head are up e = none_stand _ _ _ _ _ k e
rows_again bytes rest k (row ∷ rows) head are up e =
    let at = start bytes k in
    let one = row_again bytes (flat_map spelled_row rows ++ rest) at row (row_fits (head_at bytes) (row_head row) head are.0.numbers) (recursion_from_All IsEntry row.entries are.0.entries) (e ∙ append_assoc (spelled_row row) (flat_map spelled_row rows) rest) in
    let node : (row_head_at bytes at).node ≡ row.node = ap (λ (r : RowHead). r.node) one.numbers in
    let count : (row_head_at bytes at).count ≡ length row.entries = ap (λ (r : RowHead). r.count) one.numbers in
    let next : start bytes (k + 1) ≡ at + 12 + 12 * length row.entries = start_after bytes k ∙ ap (λ (n : ℕ). at + 12 + 12 * n) count in
    let before : node_before bytes (k + 1) ≡ Some row.node = node_before_after bytes k ∙ ap (λ (n : ℕ). Some n) node in
    let others = rows_again bytes rest (k + 1) rows head are.1 (rw before up.1) (rw next one.behind) in
    let here : row_fault bytes k ≡ None = no_fault bytes (head_at bytes) at (node_before bytes k) (k + 1) (row_head row) one.numbers up.0 are.0.numbers one.within in
    more_stand _ _ _ _ _ k row rows here one.is others

-- rows without fault from row k on
pub record AllPass (bytes : List ℕ) (k n : ℕ) : Type 0 where
  pub spelled : AllSpelled bytes (start bytes) (λ j. policy_row_at bytes (start bytes j)) spelled_row k n
  pub are : AllByRecursion (IsRow (head_at bytes)) (rows_at bytes k n)
  pub up : Rises (node_before bytes k) (nodes (rows_at bytes k n))

pub rows_take : (bytes : List ℕ) (k n : ℕ) → IsBytes bytes → start bytes k ≤ length bytes → file_rows_fault bytes k n ≡ None → AllPass bytes k n
rows_take bytes k zero fits within none = record { spelled = none_spelled _ _ _ _ k within; are = tt; up = tt }
rows_take bytes k (suc n) fits within none =
    let at = start bytes k in
    let head = row_head_at bytes at in
    let row = policy_row_at bytes at in
    let parts = among_parts (row_fault bytes) k n none in
    let here = passes bytes (head_at bytes) at (node_before bytes k) (k + 1) parts.0 in
    let one = row_takes bytes at fits here.within in
    let next = start_after bytes k in
    let others = rows_take bytes (k + 1) n fits (rw next here.within) parts.1 in
    let before = node_before_after bytes k in
    let count : length row.entries ≡ head.count = length-map-range_with_len _ 0 head.count in
    record {
      spelled = more_spelled _ _ _ _ k n (rw next one.0) others.spelled;
      are = (record { numbers = rw count here.fits; entries = All-from_recursion IsEntry row.entries one.1 }, others.are);
      up = (here.up, rw before at others.up);
    }

-- the length of rows
pub length-rows : (rows : List PolicyRow) → length (flat_map spelled_row rows) ≡ 12 * length rows + 12 * sum_by (λ row. length row.entries) rows
length-rows [] = refl
length-rows (row ∷ rows) = rw (sum_by-cons (λ (r : PolicyRow). length r.entries) row rows) (omega (arith, length-append (spelled_row row) (flat_map spelled_row rows), length-row row, length-rows rows))
