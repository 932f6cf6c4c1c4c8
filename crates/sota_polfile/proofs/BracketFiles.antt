-- The spelling of a bracket table is without fault and says its table, and bytes without fault are the spelling of what they say.
use Rattle.std.proofs.Common.{◌≡◌, ℕ, ◌+◌, ◌*◌, ◌≤◌, true, List, [], ◌++◌, length, take, drop, None, Ok, refl, sym, ap, ◌∙◌, subst, arith}
use Rattle.std.specs.Prelude.{nat_eq}
use Rattle.std.specs.List.{flat_map, starts_with}
use Rattle.std.specs.Cmp.Lexicographic.{same_text}
use Rattle.std.proofs.lemmas.List.{append-nil, take-append-drop, length-append, length-drop, drop_all}
use Rattle.std.proofs.lemmas.List.FromFn.{length-map-range_with_len}
use Rattle.sota_polfile.specs.declared.bracket_row.BracketRow.{BracketRow}
use Rattle.sota_polfile.specs.declared.head.PolicyHead.{PolicyHead}
use Rattle.sota_polfile.specs.Table.{IsHead}
use Rattle.sota_polfile.specs.Bracket.{Bracket, IsBracket, bracket_cells}
use Rattle.sota_polfile.specs.Places.{head_at}
use Rattle.sota_polfile.specs.Faults.{is_head, head_fault}
use Rattle.sota_polfile.specs.BracketFile.{bracket_magic, spelled_bracket_head, spelled_bracket_row, bracket_spelling, bracket_start, bracket_rows_at, bracket_at, bracket_file_rows_fault, first_bracket_fault, bracket_of}
use Rattle.sota_polfile.proofs.Numbers.{IsBytes}
use Rattle.sota_polfile.proofs.Heads.{numbers_again, numbers_take}
use Rattle.sota_polfile.proofs.Rules.{head_fits, fit_head}
use Rattle.sota_polfile.proofs.BracketParts.{by_place, from_places}
use Rattle.sota_polfile.proofs.BracketRows.{rows_again, rows_take, length-rows}
use Rattle.sota_polfile.proofs.FileFaults.{Clean, none_head, clean_none, none_clean}
use Rattle.sota_polfile.proofs.Replies.{fault_or_ok, faultless}

-- bytes in which no fault is found
abbrev pub CleanBracket : List ℕ → Type 0
CleanBracket bytes = Clean bracket_magic 28 (bracket_file_rows_fault bytes 0 (head_at bytes).nodes) (bracket_start bytes (head_at bytes).nodes) bytes

pub bracket_clean_none : (bytes : List ℕ) → CleanBracket bytes → first_bracket_fault bytes ≡ None
bracket_clean_none bytes clean = clean_none bracket_magic 28 (bracket_file_rows_fault bytes 0 (head_at bytes).nodes) (bracket_start bytes (head_at bytes).nodes) bytes clean

-- ---- what is spelled is read

length-head : (head : PolicyHead) → length (spelled_bracket_head head) ≡ 28
unfolding spelled_bracket_head
length-head head = refl

pub length-spelling : (table : Bracket) → length (bracket_spelling table) ≡ 28 + 8 * length table.rows + 20 * bracket_cells table
unfolding bracket_spelling
length-spelling table = omega (arith, length-append (spelled_bracket_head table.head) (flat_map spelled_bracket_row table.rows), length-head table.head, length-rows table.rows)

-- a head that was spelled
pub record HeadStands (bytes rest : List ℕ) (is : PolicyHead) : Type 0 where
  pub begins : starts_with nat_eq bytes bracket_magic ≡ true
  pub long : 28 ≤ length bytes
  pub head : head_at bytes ≡ is
  pub behind : drop 28 bytes ≡ rest

head_again : (bytes rest : List ℕ) (head : PolicyHead) → IsHead head → bytes ≡ spelled_bracket_head head ++ rest → HeadStands bytes rest head
unfolding spelled_bracket_head
head_again bytes rest head fits e =
    record {
      begins = rw e refl;
      long = omega (arith, ap length e, length-append (spelled_bracket_head head) rest);
      head = numbers_again bytes rest head fits (ap (drop 8) e);
      behind = ap (drop 28) e;
    }

made : PolicyHead → List BracketRow → Bracket
made head rows = record { head = head; rows = rows }

-- a table's spelling has no fault, and says that table
pub record Said (table : Bracket) : Type 0 where
  pub clean : CleanBracket (bracket_spelling table)
  pub is : bracket_at (bracket_spelling table) ≡ table

pub said : (table : Bracket) → IsBracket table → Said table
unfolding bracket_spelling bracket_at bracket_start made
said table is =
    let bytes = bracket_spelling table in
    let head = head_again bytes (flat_map spelled_bracket_row table.rows) table.head is.head refl in
    let rows = from_places table.head 1 table.rows is.rows in
    let nodes : (head_at bytes).nodes ≡ length table.rows = ap (λ (h : PolicyHead). h.nodes) head.head ∙ sym is.size in
    let all = rows_again bytes [] 0 table.rows (rw head.head is.head) (rw head.head rows.0) rows.1 (head.behind ∙ sym (append-nil (flat_map spelled_bracket_row table.rows))) in
    let zero_more : 0 + length table.rows ≡ length table.rows = omega arith in
    let end = rw zero_more at all.behind in
    record {
      clean = record {
        head = record { begins = head.begins; long = head.long; head = ap is_head head.head ∙ fit_head table.head is.head };
        rows_pass = rw nodes all.none;
        ends = rw nodes (omega (arith, length-drop (bracket_start bytes (length table.rows)) bytes, ap length end));
      };
      is = ap (λ (h : PolicyHead). made h (bracket_rows_at bytes 0 h.nodes)) head.head ∙ ap (λ (n : ℕ). made table.head (bracket_rows_at bytes 0 n)) (sym is.size) ∙ ap (made table.head) all.are;
    }

pub read_again : (table : Bracket) → IsBracket table → bracket_of (bracket_spelling table) ≡ Ok table
unfolding bracket_of
read_again table is =
    let s = said table is in
    rw (bracket_clean_none (bracket_spelling table) s.clean, s.is) refl

-- ---- what is read was spelled

head_text : (bytes : List ℕ) → IsBytes bytes → starts_with nat_eq bytes bracket_magic ≡ true → 28 ≤ length bytes → bytes ≡ spelled_bracket_head (head_at bytes) ++ drop 28 bytes
unfolding spelled_bracket_head
head_text bytes fits begins long =
    let first : bracket_magic ≡ take 8 bytes = same_text bracket_magic (take 8 bytes) (sym begins) in
    sym (take-append-drop 8 bytes) ∙ ap (λ (t : List ℕ). t ++ drop 8 bytes) (sym first) ∙ ap (λ (t : List ℕ). bracket_magic ++ t) (numbers_take bytes fits long)

pub clean_spelled : (bytes : List ℕ) → IsBytes bytes → CleanBracket bytes → IsBracket (bracket_at bytes) × (bytes ≡ bracket_spelling (bracket_at bytes))
unfolding bracket_spelling bracket_at bracket_start
clean_spelled bytes fits clean =
    let n : ℕ = (head_at bytes).nodes in
    let head = head_text bytes fits clean.head.begins clean.head.long in
    let all = rows_take bytes 0 n fits clean.head.long clean.rows_pass in
    let zero_more : 0 + n ≡ n = omega arith in
    let none : drop (bracket_start bytes (0 + n)) bytes ≡ [] = rw zero_more (drop_all (bracket_start bytes n) bytes clean.ends) in
    let rows : drop 28 bytes ≡ flat_map spelled_bracket_row (bracket_rows_at bytes 0 n) = all.spelled.text ∙ ap (λ (t : List ℕ). flat_map spelled_bracket_row (bracket_rows_at bytes 0 n) ++ t) none ∙ append-nil (flat_map spelled_bracket_row (bracket_rows_at bytes 0 n)) in (
      record {
        head = head_fits (head_at bytes) clean.head.head;
        size = length-map-range_with_len _ 0 n;
        rows = by_place (head_at bytes) 1 (bracket_rows_at bytes 0 n) all.parts all.entries;
      },
      head ∙ ap (λ (t : List ℕ). spelled_bracket_head (head_at bytes) ++ t) rows,
    )

pub read_spelled : (bytes : List ℕ) (table : Bracket) → IsBytes bytes → bracket_of bytes ≡ Ok table → IsBracket table × (bytes ≡ bracket_spelling table)
unfolding bracket_of
read_spelled bytes table fits e =
    let p = fault_or_ok (first_bracket_fault bytes) (bracket_at bytes) table e in
    rw p.1 at (clean_spelled bytes fits (none_clean bracket_magic 28 (bracket_file_rows_fault bytes 0 (head_at bytes).nodes) (bracket_start bytes (head_at bytes).nodes) bytes p.0))

-- ---- what a reader has found

-- a head, rows and their end, as they stand in the bytes
pub record Found (bytes : List ℕ) (head : PolicyHead) (rows : List BracketRow) (end : ℕ) : Type 0 where
  pub head_none : head_fault bracket_magic 28 bytes ≡ None
  pub head_is : head ≡ head_at bytes
  pub rows_are : rows ≡ bracket_rows_at bytes 0 head.nodes
  pub none : bracket_file_rows_fault bytes 0 head.nodes ≡ None
  pub end_is : end ≡ bracket_start bytes head.nodes
  pub ends : length bytes ≤ end

pub found_table : (bytes : List ℕ) (head : PolicyHead) (rows : List BracketRow) (end : ℕ) → IsBytes bytes → Found bytes head rows end → IsBracket (record { head = head; rows = rows }) × (bracket_of bytes ≡ Ok (record { head = head; rows = rows }))
unfolding bracket_at bracket_of made
found_table bytes head rows end fits found =
    let clean : CleanBracket bytes = record {
      head = none_head bracket_magic 28 bytes found.head_none;
      rows_pass = rw found.head_is at found.none;
      ends = rw (found.end_is, found.head_is) at found.ends;
    } in
    let is : bracket_at bytes ≡ record { head = head; rows = rows } = ap (λ (h : PolicyHead). made h (bracket_rows_at bytes 0 h.nodes)) (sym found.head_is) ∙ ap (made head) (sym found.rows_are) in
    (subst (λ (t : Bracket). IsBracket t) is (clean_spelled bytes fits clean).0, faultless (first_bracket_fault bytes) (bracket_at bytes) (bracket_clean_none bytes clean) ∙ ap (λ (t : Bracket). Ok t) is)
