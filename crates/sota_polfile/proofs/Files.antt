-- A spelling is without fault and says its table, and bytes without fault are the spelling of what they say.
use Rattle.std.proofs.Common.{◌≡◌, ℕ, ◌+◌, ◌*◌, ◌^◌, ◌≤◌, ◌<◌, true, List, [], ◌∷◌, ◌++◌, length, take, drop, None, Result, Ok, Err, IfOk, All, refl, sym, ap, ◌∙◌, subst, inl, inr, arith}
use Rattle.std.specs.Prelude.{nat_eq}
use Rattle.std.specs.List.{flat_map, starts_with}
use Rattle.std.specs.Int.{w32, to_be_bytes}
use Rattle.std.specs.Cmp.Lexicographic.{same_text}
use Rattle.std.proofs.lemmas.List.{append-nil, take-append-drop, length-append, length-drop, drop_all, get_or_past}
use Rattle.std.proofs.lemmas.List.Elements.{All-from_recursion, recursion_from_All, All-get_or}
use Rattle.std.proofs.lemmas.List.FromFn.{length-map-range_with_len}
use Rattle.std.proofs.lemmas.Bool.{cases_lt}
use Rattle.sota_units.specs.Memory.{Answers}
use Rattle.sota_polfile.specs.Words.{is_shortage}
use Rattle.sota_polfile.specs.declared.fault.PolicyFault.{PolicyFault}
use Rattle.sota_polfile.specs.declared.head.PolicyHead.{PolicyHead}
use Rattle.sota_polfile.specs.declared.row.PolicyRow.{PolicyRow}
use Rattle.sota_polfile.specs.Table.{Table, IsHead, IsRow, IsTable, nodes, cells}
use Rattle.sota_polfile.specs.Spelling.{magic, spelled_numbers, spelled_head, spelled_row, spelling}
use Rattle.sota_polfile.specs.Places.{number_at, head_at, row_count, start, node_before, rows_at, table_read}
use Rattle.sota_polfile.specs.Faults.{is_head, head_fault, file_rows_fault, first_fault, policy_of}
use Rattle.sota_polfile.proofs.Numbers.{IsBytes, wide32, number_again, number_takes}
use Rattle.sota_polfile.proofs.Heads.{head_numbers, numbers_again, numbers_take}
use Rattle.sota_polfile.proofs.Rules.{head_fits, fit_head, increasing}
use Rattle.sota_polfile.proofs.Parts.{table_rows, table_bound}
use Rattle.sota_polfile.proofs.Rows.{rows_again, rows_take, length-rows}
use Rattle.sota_polfile.proofs.FileFaults.{Clean, none_head, clean_none, none_clean}
use Rattle.sota_polfile.proofs.Replies.{fault_or_ok, faultless}

-- bytes in which no fault is found
abbrev pub CleanPolicy : List ℕ → Type 0
CleanPolicy bytes = Clean magic 32 (file_rows_fault bytes 0 (row_count bytes)) (start bytes (row_count bytes)) bytes

pub policy_clean_none : (bytes : List ℕ) → CleanPolicy bytes → first_fault bytes ≡ None
policy_clean_none bytes clean = clean_none magic 32 (file_rows_fault bytes 0 (row_count bytes)) (start bytes (row_count bytes)) bytes clean

-- ---- what is spelled is read

pub length-head : (head : PolicyHead) (count : ℕ) → length (spelled_head head count) ≡ 32
unfolding spelled_head
length-head head count = refl

pub length-spelling : (table : Table) → length (spelling table) ≡ 32 + 12 * length table.rows + 12 * cells table
unfolding spelling
length-spelling table =
    let front = spelled_head table.head (length table.rows) in
    omega (arith, length-append front (flat_map spelled_row table.rows), length-head table.head (length table.rows), length-rows table.rows)

-- a head that was spelled
pub record HeadStands (bytes rest : List ℕ) (is : PolicyHead) (count : ℕ) : Type 0 where
  pub begins : starts_with nat_eq bytes magic ≡ true
  pub long : 32 ≤ length bytes
  pub head : head_at bytes ≡ is
  pub rows : row_count bytes ≡ count
  pub behind : drop 32 bytes ≡ rest

pub head_again : (bytes rest : List ℕ) (head : PolicyHead) (count : ℕ) → IsHead head → count < 2 ^ 32 → bytes ≡ spelled_head head count ++ rest → HeadStands bytes rest head count
unfolding spelled_head
head_again bytes rest head count fits few e =
    let rows : number_at w32 bytes 28 ≡ count = number_again w32 (2 ^ 32) wide32 bytes rest 28 count few (ap (drop 28) e) in
    record {
      begins = rw e refl;
      long = omega (arith, ap length e, length-append (spelled_head head count) rest);
      head = numbers_again bytes (spelled_numbers (count ∷ []) ++ rest) head fits (ap (drop 8) e);
      rows = rows;
      behind = ap (drop 32) e;
    }

-- a table's spelling has no fault, and says that table
pub record Said (table : Table) : Type 0 where
  pub clean : CleanPolicy (spelling table)
  pub is : table_read (spelling table) ≡ table

made : PolicyHead → List PolicyRow → Table
made head rows = record { head = head; rows = rows }

pub said : (table : Table) → IsTable table → Said table
unfolding spelling table_read start node_before made
said table is =
    let bytes = spelling table in
    let few = table_bound table is in
    let rows = table_rows table is in
    let head = head_again bytes (flat_map spelled_row table.rows) table.head (length table.rows) is.head (omega (arith, few, is.head.nodes.1)) refl in
    let all = rows_again bytes [] 0 table.rows (rw head.head is.head) (rw head.head (recursion_from_All (IsRow table.head) table.rows is.rows)) rows.rising (head.behind ∙ sym (append-nil (flat_map spelled_row table.rows))) in
    let zero_more : 0 + length table.rows ≡ length table.rows = omega arith in
    let end = rw zero_more at all.behind in
    record {
      clean = record {
        head = record { begins = head.begins; long = head.long; head = ap is_head head.head ∙ fit_head table.head is.head };
        rows_pass = rw head.rows all.none;
        ends = rw head.rows (omega (arith, length-drop (start bytes (length table.rows)) bytes, ap length end));
      };
      is = ap (λ (h : PolicyHead). made h (rows_at bytes 0 (row_count bytes))) head.head ∙ ap (λ (n : ℕ). made table.head (rows_at bytes 0 n)) head.rows ∙ ap (made table.head) all.are;
    }

pub read_again : (table : Table) → IsTable table → policy_of (spelling table) ≡ Ok table
unfolding policy_of
read_again table is =
    let s = said table is in
    rw (policy_clean_none (spelling table) s.clean, s.is) refl

-- ---- what is read was spelled

head_text : (bytes : List ℕ) → IsBytes bytes → starts_with nat_eq bytes magic ≡ true → 32 ≤ length bytes → bytes ≡ spelled_head (head_at bytes) (row_count bytes) ++ drop 32 bytes
unfolding spelled_head
head_text bytes fits begins long =
    let first : magic ≡ take 8 bytes = same_text magic (take 8 bytes) (sym begins) in
    let rows : drop 28 bytes ≡ to_be_bytes w32 (number_at w32 bytes 28) ++ drop 32 bytes = number_takes w32 (2 ^ 32) wide32 bytes 28 fits (omega arith) in
    let from8 : drop 8 bytes ≡ head_numbers (head_at bytes) ++ (to_be_bytes w32 (number_at w32 bytes 28) ++ drop 32 bytes) = numbers_take bytes fits (omega arith) ∙ ap (λ (t : List ℕ). head_numbers (head_at bytes) ++ t) rows in
    sym (take-append-drop 8 bytes) ∙ ap (λ (t : List ℕ). t ++ drop 8 bytes) (sym first) ∙ ap (λ (t : List ℕ). magic ++ t) from8

pub clean_spelled : (bytes : List ℕ) → IsBytes bytes → CleanPolicy bytes → IsTable (table_read bytes) × (bytes ≡ spelling (table_read bytes))
unfolding spelling table_read start node_before
clean_spelled bytes fits clean =
    let n = row_count bytes in
    let head = head_text bytes fits clean.head.begins clean.head.long in
    let all = rows_take bytes 0 n fits clean.head.long clean.rows_pass in
    let zero_more : 0 + n ≡ n = omega arith in
    let none : drop (start bytes (0 + n)) bytes ≡ [] = rw zero_more (drop_all (start bytes n) bytes clean.ends) in
    let rows : drop 32 bytes ≡ flat_map spelled_row (rows_at bytes 0 n) = all.spelled.text ∙ ap (λ (t : List ℕ). flat_map spelled_row (rows_at bytes 0 n) ++ t) none ∙ append-nil (flat_map spelled_row (rows_at bytes 0 n)) in
    let count : length (rows_at bytes 0 n) ≡ n = length-map-range_with_len _ 0 n in (
      record {
        head = head_fits (head_at bytes) clean.head.head;
        rows = All-from_recursion (IsRow (head_at bytes)) (rows_at bytes 0 n) all.are;
        rising = increasing None (nodes (rows_at bytes 0 n)) all.up;
      },
      rw count (head ∙ ap (λ (t : List ℕ). spelled_head (head_at bytes) n ++ t) rows),
    )

pub read_spelled : (bytes : List ℕ) (table : Table) → IsBytes bytes → policy_of bytes ≡ Ok table → IsTable table × (bytes ≡ spelling table)
unfolding policy_of
read_spelled bytes table fits e =
    let p = fault_or_ok (first_fault bytes) (table_read bytes) table e in
    rw p.1 at (clean_spelled bytes fits (none_clean magic 32 (file_rows_fault bytes 0 (row_count bytes)) (start bytes (row_count bytes)) bytes p.0))

pub reads_spelled : (bytes : List ℕ) (r : Result Table PolicyFault) → IsBytes bytes → Answers is_shortage r (policy_of bytes) → IfOk r (λ table. IsTable table × (bytes ≡ spelling table))
reads_spelled bytes (Ok table) fits given = read_spelled bytes table fits given
reads_spelled bytes (Err fault) fits given = tt

-- from the fact that clauses have
pub IsBytes-from_all : (bytes : List ℕ) → All (λ byte. byte < 256) bytes → IsBytes bytes
IsBytes-from_all bytes h i =
    elim (cases_lt i (length bytes)) [
      | inl lt ↦ All-get_or (λ byte. byte < 256) bytes i 0 lt h
      | inr le ↦ rw (get_or_past bytes i 0 le) (omega arith)
    ]

-- ---- what a reader has found

-- a head, rows and their end, as they stand in the bytes
pub record Found (bytes : List ℕ) (head : PolicyHead) (count : ℕ) (rows : List PolicyRow) (end : ℕ) : Type 0 where
  pub head_none : head_fault magic 32 bytes ≡ None
  pub head_is : head ≡ head_at bytes
  pub count_is : count ≡ row_count bytes
  pub rows_are : rows ≡ rows_at bytes 0 count
  pub none : file_rows_fault bytes 0 count ≡ None
  pub end_is : end ≡ start bytes count
  pub ends : length bytes ≤ end

pub found_table : (bytes : List ℕ) (head : PolicyHead) (count : ℕ) (rows : List PolicyRow) (end : ℕ) → IsBytes bytes → Found bytes head count rows end → IsTable (record { head = head; rows = rows }) × (policy_of bytes ≡ Ok (record { head = head; rows = rows }))
unfolding table_read policy_of made
found_table bytes head count rows end fits found =
    let clean : CleanPolicy bytes = record {
      head = none_head magic 32 bytes found.head_none;
      rows_pass = rw found.count_is at found.none;
      ends = rw (found.end_is, found.count_is) at found.ends;
    } in
    let rows_are : rows ≡ rows_at bytes 0 (row_count bytes) = found.rows_are ∙ ap (λ (n : ℕ). rows_at bytes 0 n) found.count_is in
    let is : table_read bytes ≡ record { head = head; rows = rows } = ap (λ (h : PolicyHead). made h (rows_at bytes 0 (row_count bytes))) (sym found.head_is) ∙ ap (made head) (sym rows_are) in
    (subst (λ (t : Table). IsTable t) is (clean_spelled bytes fits clean).0, faultless (first_fault bytes) (table_read bytes) (policy_clean_none bytes clean) ∙ ap (λ (t : Table). Ok t) is)
