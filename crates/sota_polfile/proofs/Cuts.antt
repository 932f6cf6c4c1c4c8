-- The first fault of a file that is cut off.
use Rattle.std.proofs.Common.{◌≡◌, ℕ, ◌+◌, ◌-◌, ◌*◌, ◌/◌, ◌≤◌, ◌<◌, true, false, ltb, List, [], ◌∷◌, ◌++◌, length, take, drop, Some, None, inl, inr, refl, sym, ap, ◌∙◌, append_assoc, arith}
use Rattle.std.specs.Prelude.{nat_eq}
use Rattle.std.specs.List.{flat_map, AllByRecursion, starts_with}
use Rattle.std.specs.Cmp.Lexicographic.{same_text}
use Rattle.std.proofs.Math.Seq.{take-append-add}
use Rattle.std.proofs.lemmas.Bool.{cases_lt, false_from_ne_true, le-ltb, lt-ltb}
use Rattle.std.proofs.lemmas.List.{length-append, length-take}
use Rattle.std.proofs.lemmas.List.Elements.{recursion_from_All}
use Rattle.sota_polfile.specs.declared.fault.PolicyFault.TheVariants.{Magic, Truncated}
use Rattle.sota_polfile.specs.declared.head.PolicyHead.{PolicyHead}
use Rattle.sota_polfile.specs.declared.row.PolicyRow.{PolicyRow}
use Rattle.sota_polfile.specs.declared.row.RowHead.{RowHead}
use Rattle.sota_polfile.specs.Entry.{IsEntry}
use Rattle.sota_polfile.specs.Table.{Table, IsHead, IsRow, IsTable, row_head, nodes}
use Rattle.sota_polfile.specs.Spelling.{magic, spelled_numbers, spelled_head, spelled_entry, spelled_row, spelling}
use Rattle.sota_polfile.specs.Places.{head_at, row_count, row_head_at, start, node_before}
use Rattle.sota_polfile.specs.Faults.{is_head, is_unordered, numbers_fault, row_fault, file_rows_fault, first_fault, cut_of}
use Rattle.sota_polfile.proofs.Rules.{Rises, fit_head, fit_numbers}
use Rattle.sota_polfile.proofs.Parts.{table_rows, table_bound}
use Rattle.sota_polfile.proofs.Rows.{row_fits, row_head_again, row_again, length-row, no_fault, in_entries, start_after, node_before_after}
use Rattle.sota_polfile.proofs.FileFaults.{sized_short, among_passed, among_found, HasHead, head_none, not_magic, short_head, in_head, in_rows}
use Rattle.sota_polfile.proofs.Files.{length-head, head_again, policy_clean_none, said}

-- the first m bytes of a text that goes on for longer than its front
front_stays : (front more : List ℕ) (m : ℕ) → length front ≤ m → take m (front ++ more) ≡ front ++ take (m - length front) more
front_stays front more m le =
    let parts : m ≡ length front + (m - length front) = omega arith in
    ap (λ (k : ℕ). take k (front ++ more)) parts ∙ take-append-add front more (m - length front)

module _ (bytes : List ℕ) (head : IsHead (head_at bytes)) (k m : ℕ) (row : PolicyRow) (is : IsRow (head_at bytes) row) (up : is_unordered (node_before bytes k) row.node ≡ false) (long : length bytes ≡ start bytes k + m) where
  -- a row of which m bytes are there
  cut_in_row : (more : List ℕ) → drop (start bytes k) bytes ≡ take m (spelled_row row ++ more) → m < 12 + 12 * length row.entries → row_fault bytes k ≡ Some (Truncated (start bytes k + 12 * (m / 12)))
  unfolding spelled_row
  cut_in_row more text cut = elim (cases_lt m 12) [
    | inl short ↦
        let place : start bytes k ≡ start bytes k + 12 * (m / 12) = omega arith in
        sized_short (length bytes) (start bytes k) 12 (numbers_fault (head_at bytes) (node_before bytes k) (k + 1) (row_head_at bytes (start bytes k))) 12 (row_head_at bytes (start bytes k)).count (omega arith) ∙ ap (λ (p : ℕ). Some (Truncated p)) place
    | inr whole ↦
        let front = spelled_numbers (row.node ∷ row.first ∷ length row.entries ∷ []) in
        let after = flat_map spelled_entry row.entries ++ more in
        let regrouped : drop (start bytes k) bytes ≡ front ++ take (m - 12) after = text ∙ ap (take m) (append_assoc front (flat_map spelled_entry row.entries) more) ∙ front_stays front after m whole in
        let numbers = row_head_again bytes (take (m - 12) after) (start bytes k) (row_head row) (row_fits (head_at bytes) (row_head row) head is.numbers) regrouped in
        let good = fit_numbers (head_at bytes) (node_before bytes k) (k + 1) (row_head row) up is.numbers in
        let place : start bytes k + 12 + 12 * ((length bytes - (start bytes k + 12)) / 12) ≡ start bytes k + 12 * (m / 12) = omega arith in
        in_entries bytes (head_at bytes) (start bytes k) (node_before bytes k) (k + 1) (row_head row) numbers.0 good (omega arith) (omega arith) ∙ ap (λ (p : ℕ). Some (Truncated p)) place
  ]

  -- the row is whole, and the rest begins behind it
  pub record IsBehind (more : List ℕ) : Type 0 where
    pub none : row_fault bytes k ≡ None
    pub next : start bytes (k + 1) ≡ start bytes k + 12 + 12 * length row.entries
    pub before : node_before bytes (k + 1) ≡ Some row.node
    pub text : drop (start bytes (k + 1)) bytes ≡ take (m - (12 + 12 * length row.entries)) more

  is_behind : (more : List ℕ) → drop (start bytes k) bytes ≡ take m (spelled_row row ++ more) → 12 + 12 * length row.entries ≤ m → IsBehind more
  is_behind more text past =
      let at = start bytes k in
      let stays : take m (spelled_row row ++ more) ≡ spelled_row row ++ take (m - length (spelled_row row)) more = front_stays (spelled_row row) more m (omega (arith, length-row row)) in
      let one = row_again bytes (take (m - length (spelled_row row)) more) at row (row_fits (head_at bytes) (row_head row) head is.numbers) (recursion_from_All IsEntry row.entries is.entries) (text ∙ stays) in
      let node : (row_head_at bytes at).node ≡ row.node = ap (λ (r : RowHead). r.node) one.numbers in
      let count : (row_head_at bytes at).count ≡ length row.entries = ap (λ (r : RowHead). r.count) one.numbers in
      let next : start bytes (k + 1) ≡ at + 12 + 12 * length row.entries = start_after bytes k ∙ ap (λ (n : ℕ). at + 12 + 12 * n) count in
      record {
        none = no_fault bytes (head_at bytes) at (node_before bytes k) (k + 1) (row_head row) one.numbers up is.numbers one.within;
        next = next;
        before = node_before_after bytes k ∙ ap (λ (n : ℕ). Some n) node;
        text = rw next (one.behind ∙ ap (λ (n : ℕ). take (m - n) more) (length-row row));
      }

-- rows of which m bytes are there
pub rows_cut : (bytes : List ℕ) (head : IsHead (head_at bytes)) (k m : ℕ) (rows : List PolicyRow) → AllByRecursion (IsRow (head_at bytes)) rows → Rises (node_before bytes k) (nodes rows) → drop (start bytes k) bytes ≡ take m (flat_map spelled_row rows) → length bytes ≡ start bytes k + m → m < length (flat_map spelled_row rows) → file_rows_fault bytes k (length rows) ≡ Some (Truncated (start bytes k + 12 * (m / 12)))
rows_cut bytes head k m [] are up text long cut = absurd (omega arith)
rows_cut bytes head k m (row ∷ rows) are up text long cut = elim (cases_lt m (12 + 12 * length row.entries)) [
  | inl short ↦
      let here = cut_in_row bytes head k m row are.0 up.0 long (flat_map spelled_row rows) text short in
      among_found (row_fault bytes) k (length rows) _ here
  | inr past ↦
      let all : length (flat_map spelled_row (row ∷ rows)) ≡ 12 + 12 * length row.entries + length (flat_map spelled_row rows) = omega (arith, length-append (spelled_row row) (flat_map spelled_row rows), length-row row) in
      let after = is_behind bytes head k m row are.0 up.0 long (flat_map spelled_row rows) text past in
      let left = m - (12 + 12 * length row.entries) in
      let others = rows_cut bytes head (k + 1) left rows are.1 (rw after.before up.1) after.text (rw after.next (omega arith)) (omega arith) in
      let place : start bytes (k + 1) + 12 * (left / 12) ≡ start bytes k + 12 * (m / 12) = rw after.next (omega arith) in
      among_passed (row_fault bytes) k (length rows) after.none ∙ others ∙ ap (λ (p : ℕ). Some (Truncated p)) place
]

-- ---- the whole file

starts_short : (bytes : List ℕ) → length bytes < 8 → starts_with nat_eq bytes magic ≡ false
starts_short bytes short = false_from_ne_true _ (λ (e : starts_with nat_eq bytes magic ≡ true).
    let same : magic ≡ take 8 bytes = same_text magic (take 8 bytes) (sym e) in
    let eight : 8 ≡ length (take 8 bytes) = ap length same in
    absurd (omega (arith, length-take 8 bytes)))

starts_whole : (bytes rest : List ℕ) → bytes ≡ magic ++ rest → starts_with nat_eq bytes magic ≡ true
starts_whole bytes rest e = rw e refl

magic_first : (head : PolicyHead) (count : ℕ) → spelled_head head count ≡ magic ++ spelled_numbers (head.nodes ∷ head.dest ∷ head.origin ∷ head.budget ∷ head.scale ∷ count ∷ [])
unfolding spelled_head
magic_first head count = refl

module _ (table : Table) (is : IsTable table) where
  text : List ℕ
  text = flat_map spelled_row table.rows

  cut_in_rows : (n : ℕ) → 32 ≤ n → n < length (spelling table) → first_fault (take n (spelling table)) ≡ Some (Truncated (32 + 12 * ((n - 32) / 12)))
  unfolding spelling start node_before text
  cut_in_rows n past cut =
      let bytes = take n (spelling table) in
      let front = spelled_head table.head (length table.rows) in
      let thirty-two = length-head table.head (length table.rows) in
      let stays : bytes ≡ front ++ take (n - 32) text = front_stays front text n (omega arith) ∙ ap (λ (k : ℕ). front ++ take (n - k) text) thirty-two in
      let whole : length (spelling table) ≡ 32 + length text = omega (arith, length-append front text) in
      let long : length bytes ≡ n = omega (arith, length-take n (spelling table)) in
      let head = head_again bytes (take (n - 32) text) table.head (length table.rows) is.head (omega (arith, table_bound table is, is.head.nodes.1)) stays in
      let rows = rows_cut bytes (rw head.head is.head) 0 (n - 32) table.rows (rw head.head (recursion_from_All (IsRow table.head) table.rows is.rows)) (table_rows table is).rising head.behind (omega arith) (omega arith) in
      let has : HasHead magic 32 bytes = record { begins = head.begins; long = omega arith; head = ap is_head head.head ∙ fit_head table.head is.head } in
      in_rows magic 32 (file_rows_fault bytes 0 (row_count bytes)) (start bytes (row_count bytes)) bytes _ (head_none magic 32 bytes has) (rw head.rows rows)

  pub cut_first : (n : ℕ) → n < length (spelling table) → first_fault (take n (spelling table)) ≡ Some (cut_of n)
  unfolding spelling
  cut_first n cut = elim (cases_lt n 8) [
    | inl short ↦
        let below : ltb n 8 ≡ true = lt-ltb _ _ short in
        in_head magic 32 _ _ (take n (spelling table)) Magic (not_magic magic 32 (take n (spelling table)) (starts_short (take n (spelling table)) (omega (arith, length-take n (spelling table))))) ∙ rw below refl
    | inr eight ↦ elim (cases_lt n 32) [
      | inl short ↦
          let past : ltb n 8 ≡ false = le-ltb _ _ eight in
          let below : ltb n 32 ≡ true = lt-ltb _ _ short in
          let more = spelled_numbers (table.head.nodes ∷ table.head.dest ∷ table.head.origin ∷ table.head.budget ∷ table.head.scale ∷ length table.rows ∷ []) in
          let first : spelling table ≡ magic ++ (more ++ flat_map spelled_row table.rows) = ap (λ (t : List ℕ). t ++ flat_map spelled_row table.rows) (magic_first table.head (length table.rows)) in
          let stays : take n (spelling table) ≡ magic ++ take (n - 8) (more ++ flat_map spelled_row table.rows) = ap (take n) first ∙ front_stays magic (more ++ flat_map spelled_row table.rows) n eight in
          in_head magic 32 _ _ (take n (spelling table)) (Truncated 0) (short_head magic 32 (take n (spelling table)) (starts_whole _ _ stays) (omega (arith, length-take n (spelling table)))) ∙ rw (past, below) refl
      | inr whole ↦
          let past : ltb n 8 ≡ false = le-ltb _ _ eight in
          let also : ltb n 32 ≡ false = le-ltb _ _ whole in
          cut_in_rows n whole cut ∙ rw (past, also) refl
    ]
  ]

  -- so it is no file
  pub cut_no_file : (other : Table) → IsTable other → (n : ℕ) → n < length (spelling table) → take n (spelling table) ≡ spelling other → ⊥
  cut_no_file other fits n cut same =
      let faulty = cut_first n cut in
      let clean : first_fault (spelling other) ≡ None = policy_clean_none (spelling other) (said other fits).clean in
      let both : first_fault (take n (spelling table)) ≡ None = rw same clean in
      cc
