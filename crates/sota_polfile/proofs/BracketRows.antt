-- Rows of bracket tables that were spelled in a file stand there without fault, and rows without fault are what they spell.
use Rattle.std.proofs.Common.{◌≡◌, ℕ, zero, suc, ◌+◌, ◌*◌, ◌^◌, ◌≤◌, ◌<◌, List, [], ◌∷◌, ◌++◌, length, drop, None, refl, sym, ap, ◌∙◌, append_assoc, add-one, subst, arith}
use Rattle.std.specs.List.{flat_map, sum_by, AllByRecursion}
use Rattle.std.specs.Int.{w32, to_be_bytes}
use Rattle.std.proofs.lemmas.List.{length-append}
use Rattle.std.proofs.lemmas.List.Sums.{sum_by-cons}
use Rattle.std.proofs.lemmas.List.Elements.{All-from_recursion, recursion_from_All}
use Rattle.std.proofs.lemmas.List.FromFn.{length-map-range_with_len}
use Rattle.std.specs.Prelude.{All}
use Rattle.sota_polfile.specs.declared.bracket_row.BracketRow.{BracketRow}
use Rattle.sota_polfile.specs.declared.head.PolicyHead.{PolicyHead}
use Rattle.sota_polfile.specs.declared.row.RowHead.{RowHead}
use Rattle.sota_polfile.specs.Entry.{IsBracketEntry}
use Rattle.sota_polfile.specs.Table.{IsHead}
use Rattle.sota_polfile.specs.Bracket.{IsPart, part_head}
use Rattle.sota_polfile.specs.Spelling.{spelled_numbers}
use Rattle.sota_polfile.specs.Places.{number_at, head_at}
use Rattle.sota_polfile.specs.BracketFile.{spelled_bracket_entry, spelled_bracket_row, part_at, part_fault, bracket_entries_at, bracket_row_at, bracket_start, bracket_rows_at, bracket_row_fault_at, bracket_row_fault, bracket_file_rows_fault}
use Rattle.sota_polfile.proofs.Numbers.{IsBytes, wide32, moved, room, number_again, number_takes}
use Rattle.sota_polfile.proofs.Entries.{length-bracket_entries, bracket_entries_again, bracket_entries_take}
use Rattle.sota_polfile.proofs.FileFaults.{sized_none, sized_passes, among_parts}
use Rattle.sota_polfile.proofs.Runs.{AllStand, none_stand, more_stand, AllSpelled, none_spelled, more_spelled}
use Rattle.sota_polfile.proofs.BracketParts.{AreParts, part_none, none_part, part_bound}

-- ---- one row

pub length-row : (row : BracketRow) → length (spelled_bracket_row row) ≡ 8 + 20 * length row.entries
unfolding spelled_bracket_row
length-row row = omega (arith, length-bracket_entries row.entries, length-append (spelled_numbers (row.first ∷ length row.entries ∷ [])) (flat_map spelled_bracket_entry row.entries))

-- a row that was spelled at a place
pub record Stands (bytes rest : List ℕ) (at : ℕ) (row : BracketRow) : Type 0 where
  pub numbers : (node : ℕ) → part_at bytes node at ≡ part_head node row
  pub is : bracket_row_at bytes at ≡ row
  pub behind : drop (at + 8 + 20 * length row.entries) bytes ≡ rest
  pub within : at + 8 + 20 * length row.entries ≤ length bytes

pub row_again : (bytes rest : List ℕ) (at : ℕ) (row : BracketRow) → row.first < 2 ^ 32 → length row.entries < 2 ^ 32 → AllByRecursion IsBracketEntry row.entries → drop at bytes ≡ spelled_bracket_row row ++ rest → Stands bytes rest at row
unfolding spelled_bracket_row
row_again bytes rest at row early few are e =
    let entries = flat_map spelled_bracket_entry row.entries in
    let text : drop at bytes ≡ spelled_numbers (row.first ∷ length row.entries ∷ []) ++ (entries ++ rest) = e ∙ append_assoc (spelled_numbers (row.first ∷ length row.entries ∷ [])) entries rest in
    let first : number_at w32 bytes at ≡ row.first = number_again w32 (2 ^ 32) wide32 bytes (spelled_numbers (length row.entries ∷ []) ++ (entries ++ rest)) at row.first early text in
    let count : number_at w32 bytes (at + 4) ≡ length row.entries = number_again w32 (2 ^ 32) wide32 bytes (entries ++ rest) (at + 4) (length row.entries) few (moved at 4 bytes _ text) in
    let zero : at + 8 + 20 * 0 ≡ at + 8 = omega arith in
    let behind : drop (at + 8 + 20 * 0) bytes ≡ entries ++ rest = rw zero (moved at 8 bytes _ text) in
    let again = bracket_entries_again bytes (at + 8) 0 row.entries rest are behind in
    let is : bracket_entries_at bytes (at + 8) (length row.entries) ≡ row.entries = again.0 in
    let end : at + 8 + 20 * (0 + length row.entries) ≡ at + 8 + 20 * length row.entries = omega arith in
    record {
      numbers = λ node. rw (first, count) refl;
      is = rw (first, count, is) refl;
      behind = rw end at again.1;
      within = omega (arith, room at (8 + 20 * length row.entries) bytes (spelled_bracket_row row ++ rest) e (omega arith) (omega (arith, length-row row, length-append (spelled_bracket_row row) rest)));
    }

pub row_takes : (bytes : List ℕ) (at : ℕ) → IsBytes bytes → at + 8 + 20 * number_at w32 bytes (at + 4) ≤ length bytes → (drop at bytes ≡ spelled_bracket_row (bracket_row_at bytes at) ++ drop (at + 8 + 20 * number_at w32 bytes (at + 4)) bytes) × AllByRecursion IsBracketEntry (bracket_row_at bytes at).entries
unfolding spelled_bracket_row
row_takes bytes at fits within =
    let count : ℕ = number_at w32 bytes (at + 4) in
    let first : drop at bytes ≡ to_be_bytes w32 (number_at w32 bytes at) ++ drop (at + 4) bytes = number_takes w32 (2 ^ 32) wide32 bytes at fits (omega arith) in
    let second : drop (at + 4) bytes ≡ to_be_bytes w32 (number_at w32 bytes (at + 4)) ++ drop (at + 4 + 4) bytes = number_takes w32 (2 ^ 32) wide32 bytes (at + 4) fits (omega arith) in
    let eight : at + 4 + 4 ≡ at + 8 = omega arith in
    let head : drop at bytes ≡ spelled_numbers (number_at w32 bytes at ∷ number_at w32 bytes (at + 4) ∷ []) ++ drop (at + 8) bytes = first ∙ ap (λ (t : List ℕ). to_be_bytes w32 (number_at w32 bytes at) ++ t) (rw eight at second) in
    let start : at + 8 + 20 * 0 ≡ at + 8 = omega arith in
    let end : at + 8 + 20 * (0 + number_at w32 bytes (at + 4)) ≡ at + 8 + 20 * number_at w32 bytes (at + 4) = omega arith in
    let entries = bracket_entries_take bytes fits (at + 8) 0 (number_at w32 bytes (at + 4)) (rw end within) in
    let are = bracket_entries_at bytes (at + 8) (number_at w32 bytes (at + 4)) in
    let behind : drop (at + 8) bytes ≡ flat_map spelled_bracket_entry are ++ drop (at + 8 + 20 * number_at w32 bytes (at + 4)) bytes = ap (λ (p : ℕ). drop p bytes) (sym start) ∙ entries.0 ∙ ap (λ (p : ℕ). flat_map spelled_bracket_entry are ++ drop p bytes) end in
    let long : length are ≡ number_at w32 bytes (at + 4) = length-map-range_with_len _ 0 (number_at w32 bytes (at + 4)) in
    let text : drop at bytes ≡ spelled_numbers (number_at w32 bytes at ∷ number_at w32 bytes (at + 4) ∷ []) ++ (flat_map spelled_bracket_entry are ++ drop (at + 8 + 20 * number_at w32 bytes (at + 4)) bytes) = head ∙ ap (λ (t : List ℕ). spelled_numbers (number_at w32 bytes at ∷ number_at w32 bytes (at + 4) ∷ []) ++ t) behind in
    (rw long (text ∙ sym (append_assoc (spelled_numbers (number_at w32 bytes at ∷ number_at w32 bytes (at + 4) ∷ [])) (flat_map spelled_bracket_entry are) (drop (at + 8 + 20 * number_at w32 bytes (at + 4)) bytes))), entries.1)

-- ---- faults of rows

-- a row that stands whole, with its numbers in range, has no fault
pub no_fault : (bytes : List ℕ) (head : PolicyHead) (node at : ℕ) (part : RowHead) → part_at bytes node at ≡ part → part_fault head part ≡ None → at + 8 + 20 * part.count ≤ length bytes → bracket_row_fault_at bytes head node at ≡ None
no_fault bytes head node at part is good within =
    let count : (part_at bytes node at).count ≡ part.count = ap (λ (r : RowHead). r.count) is in
    sized_none (length bytes) at 8 (part_fault head (part_at bytes node at)) 20 (part_at bytes node at).count (subst (λ (p : RowHead). part_fault head p ≡ None) (sym is) good) (subst (λ (n : ℕ). at + 8 + 20 * n ≤ length bytes) (sym count) within)

-- what a row without fault keeps to
pub record Passes (bytes : List ℕ) (head : PolicyHead) (node at : ℕ) : Type 0 where
  pub fits : IsPart head (part_at bytes node at)
  pub within : at + 8 + 20 * number_at w32 bytes (at + 4) ≤ length bytes

pub passes : (bytes : List ℕ) (head : PolicyHead) (node at : ℕ) → bracket_row_fault_at bytes head node at ≡ None → Passes bytes head node at
passes bytes head node at e =
    let parts = sized_passes (length bytes) at 8 (part_fault head (part_at bytes node at)) 20 (part_at bytes node at).count e in
    record { fits = part_none head (part_at bytes node at) parts.0; within = parts.1 }

pub start_after : (bytes : List ℕ) (k : ℕ) → bracket_start bytes (k + 1) ≡ bracket_start bytes k + 8 + 20 * number_at w32 bytes (bracket_start bytes k + 4)
unfolding bracket_start
start_after bytes k = rw add-one refl

-- ---- rows one after the other

pub rows_again : (bytes rest : List ℕ) (k : ℕ) (rows : List BracketRow) → IsHead (head_at bytes) → AreParts (head_at bytes) (k + 1) rows → AllByRecursion (λ row. All IsBracketEntry row.entries) rows → drop (bracket_start bytes k) bytes ≡ flat_map spelled_bracket_row rows ++ rest → AllStand bytes (bracket_start bytes) (λ j. bracket_row_at bytes (bracket_start bytes j)) (bracket_row_fault bytes) rest k rows
rows_again bytes rest k [] head parts entries e = none_stand _ _ _ _ _ k e
rows_again bytes rest k (row ∷ rows) head parts entries e =
    let few = part_bound (head_at bytes) (part_head (k + 1) row) head parts.0 in
    let one = row_again bytes (flat_map spelled_bracket_row rows ++ rest) (bracket_start bytes k) row (omega (arith, parts.0.first)) (omega (arith, few)) (recursion_from_All IsBracketEntry row.entries entries.0) (e ∙ append_assoc (spelled_bracket_row row) (flat_map spelled_bracket_row rows) rest) in
    let count : number_at w32 bytes (bracket_start bytes k + 4) ≡ length row.entries = ap (λ (r : RowHead). r.count) (one.numbers 0) in
    let next : bracket_start bytes (k + 1) ≡ bracket_start bytes k + 8 + 20 * length row.entries = start_after bytes k ∙ ap (λ (n : ℕ). bracket_start bytes k + 8 + 20 * n) count in
    let others = rows_again bytes rest (k + 1) rows head parts.1 entries.1 (rw next one.behind) in
    let here : bracket_row_fault bytes k ≡ None = no_fault bytes (head_at bytes) (k + 1) (bracket_start bytes k) (part_head (k + 1) row) (one.numbers (k + 1)) (none_part (head_at bytes) (part_head (k + 1) row) parts.0) one.within in
    more_stand _ _ _ _ _ k row rows here one.is others

-- rows without fault from row k on
pub record AllPass (bytes : List ℕ) (k n : ℕ) : Type 0 where
  pub spelled : AllSpelled bytes (bracket_start bytes) (λ j. bracket_row_at bytes (bracket_start bytes j)) spelled_bracket_row k n
  pub parts : AreParts (head_at bytes) (k + 1) (bracket_rows_at bytes k n)
  pub entries : AllByRecursion (λ row. All IsBracketEntry row.entries) (bracket_rows_at bytes k n)

pub rows_take : (bytes : List ℕ) (k n : ℕ) → IsBytes bytes → bracket_start bytes k ≤ length bytes → bracket_file_rows_fault bytes k n ≡ None → AllPass bytes k n
rows_take bytes k zero fits within none = record { spelled = none_spelled _ _ _ _ k within; parts = tt; entries = tt }
rows_take bytes k (suc n) fits within none =
    let row = bracket_row_at bytes (bracket_start bytes k) in
    let both = among_parts (bracket_row_fault bytes) k n none in
    let here = passes bytes (head_at bytes) (k + 1) (bracket_start bytes k) both.0 in
    let one = row_takes bytes (bracket_start bytes k) fits here.within in
    let next = start_after bytes k in
    let others = rows_take bytes (k + 1) n fits (rw next here.within) both.1 in
    let count : length row.entries ≡ number_at w32 bytes (bracket_start bytes k + 4) = length-map-range_with_len _ 0 (number_at w32 bytes (bracket_start bytes k + 4)) in
    record {
      spelled = more_spelled _ _ _ _ k n (rw next one.0) others.spelled;
      parts = (rw count here.fits, others.parts);
      entries = (All-from_recursion IsBracketEntry row.entries one.1, others.entries);
    }

-- the length of rows
pub length-rows : (rows : List BracketRow) → length (flat_map spelled_bracket_row rows) ≡ 8 * length rows + 20 * sum_by (λ row. length row.entries) rows
length-rows [] = refl
length-rows (row ∷ rows) = rw (sum_by-cons (λ (r : BracketRow). length r.entries) row rows) (omega (arith, length-append (spelled_bracket_row row) (flat_map spelled_bracket_row rows), length-row row, length-rows rows))
