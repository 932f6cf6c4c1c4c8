-- Parts are a bracket table exactly where no fault is found in them.
use Rattle.std.proofs.Common.{◌≡◌, ℕ, zero, suc, ◌+◌, ◌*◌, ◌<◌, ◌≤◌, ◌==◌, ◌&&◌, ◌||◌, nat_le, if◌then◌else◌, Bool, true, false, not, List, [], ◌∷◌, length, get_or, slice_get, drop, Option, Some, None, All, refl, sym, ap, ◌∙◌, subst, arith, ⊎_elim}
use Rattle.std.proofs.lemmas.Bool.{leb-true, le-leb, eqb-true, eq-eqb, ne_eqb, and_parts, and_from, cases_eq, cases_lt, not_from_true, not_from_false}
use Rattle.std.proofs.lemmas.List.{at_drop_more, at_drop_all}
use Rattle.std.proofs.lemmas.List.Sums.{sum_by-le}
use Rattle.std.proofs.lemmas.List.Elements.{All-from_recursion, recursion_from_All}
use Rattle.std.specs.List.{AllByRecursion}
use Rattle.sota_units.specs.Limits.{BUDGET_LIMIT}
use Rattle.sota_polfile.specs.declared.bracket_row.BracketRow.{BracketRow}
use Rattle.sota_polfile.specs.declared.fault.PolicyFault.{PolicyFault}
use Rattle.sota_polfile.specs.declared.fault.PolicyFault.TheVariants.{Range}
use Rattle.sota_polfile.specs.declared.head.PolicyHead.{PolicyHead}
use Rattle.sota_polfile.specs.declared.row.RowHead.{RowHead}
use Rattle.sota_polfile.specs.Entry.{IsBracketEntry}
use Rattle.sota_polfile.specs.Table.{IsHead}
use Rattle.sota_polfile.specs.Faults.{is_head}
use Rattle.sota_polfile.specs.Bracket.{Bracket, IsBracket, IsBracketRow, IsPart, part_head, bracket_cells}
use Rattle.sota_polfile.specs.BracketFile.{is_part, part_fault, bracket_rows_fault, bracket_parts_fault}
use Rattle.sota_polfile.proofs.Rules.{fit_head, first_of_found, first_of_passed, first_of_one, none_first}

-- ---- one row's numbers

either : (a b : Bool) → (a || b) ≡ true → a ≡ false → b ≡ true
either true b e off = absurd cc
either false b e off = e

or_left : (a b : Bool) → a ≡ true → (a || b) ≡ true
or_left a b e = rw e refl

or_right : (a b : Bool) → b ≡ true → (a || b) ≡ true
or_right true b e = refl
or_right false b e = e

not_true : (b : Bool) → b ≡ true → not b ≡ false
not_true b e = rw e refl

pub part_fits : (head : PolicyHead) (part : RowHead) → is_part head part ≡ true → IsPart head part
part_fits head part e =
    let p = and_parts (not (part.node == head.dest) || ((part.first == 0) && (part.count == 0))) _ e in
    let q = and_parts (nat_le part.first (BUDGET_LIMIT + 1)) _ p.1 in
    record {
      dest = λ at.
          let both = and_parts _ _ (either (not (part.node == head.dest)) _ p.0 (not_true _ (eq-eqb _ _ at))) in
          (eqb-true _ _ both.0, eqb-true _ _ both.1);
      first = leb-true _ _ q.0;
      last = λ some. leb-true _ _ (either (part.count == 0) _ q.1 (ne_eqb _ _ (λ none. absurd (omega arith))));
    }

pub fit_part : (head : PolicyHead) (part : RowHead) → IsPart head part → is_part head part ≡ true
fit_part head part is =
    and_from _ _
    (⊎_elim
    (λ (at : part.node ≡ head.dest). or_right (not (part.node == head.dest)) _ (and_from _ _ (eq-eqb _ _ (is.dest at).0) (eq-eqb _ _ (is.dest at).1)))
    (λ (off : part.node ≡ head.dest → ⊥). or_left (not (part.node == head.dest)) _ (ap not (ne_eqb _ _ off)))
    (cases_eq part.node head.dest))
    (and_from _ _ (le-leb _ _ is.first)
    (⊎_elim
    (λ (none : part.count ≡ 0). or_left (part.count == 0) _ (eq-eqb _ _ none))
    (λ (some : part.count ≡ 0 → ⊥). or_right (part.count == 0) _ (le-leb _ _ (is.last (positive part.count some))))
    (cases_eq part.count 0)))
  where
    positive : (n : ℕ) → (n ≡ 0 → ⊥) → 1 ≤ n
    positive zero some = absurd (some refl)
    positive (suc n) some = omega arith

true_of_not : (b : Bool) → not b ≡ false → b ≡ true
true_of_not true e = refl
true_of_not false e = absurd cc

pub part_none : (head : PolicyHead) (part : RowHead) → part_fault head part ≡ None → IsPart head part
part_none head part e = part_fits head part (true_of_not _ (failed _ e))
  where
    failed : (b : Bool) → (if b then Some (Range part.node) else None) ≡ None → b ≡ false
    failed true h = absurd cc
    failed false h = refl

pub none_part : (head : PolicyHead) (part : RowHead) → IsPart head part → part_fault head part ≡ None
none_part head part is = let good = fit_part head part is in rw good refl

-- ---- rows

-- rows for the nodes from one on
abbrev pub AreParts : PolicyHead → ℕ → List BracketRow → Type 0
AreParts head node [] = Unit {0}
AreParts head node (row ∷ rows) = IsPart head (part_head node row) × AreParts head (node + 1) rows

pub rows_fit : (head : PolicyHead) (node : ℕ) (rows : List BracketRow) → bracket_rows_fault head node rows ≡ None → AreParts head node rows
unfolding bracket_rows_fault
rows_fit head node [] e = tt
rows_fit head node (row ∷ rows) e =
    let p = none_first (part_fault head (part_head node row)) (bracket_rows_fault head (node + 1) rows ∷ []) e in
    (part_none head (part_head node row) p.0, rows_fit head (node + 1) rows (sym (first_of_one _) ∙ p.1))

pub fit_rows : (head : PolicyHead) (node : ℕ) (rows : List BracketRow) → AreParts head node rows → bracket_rows_fault head node rows ≡ None
unfolding bracket_rows_fault
fit_rows head node [] fits = refl
fit_rows head node (row ∷ rows) fits =
    let one = none_part head (part_head node row) fits.0 in
    let others = fit_rows head (node + 1) rows fits.1 in
    rw (one, others) refl

-- each row by its place, and all rows from the first
pub by_place : (head : PolicyHead) (node : ℕ) (rows : List BracketRow) → AreParts head node rows → AllByRecursion (λ row. All IsBracketEntry row.entries) rows → (k : ℕ) (row : BracketRow) → slice_get rows k ≡ Some row → IsBracketRow head (k + node) row
by_place head node [] parts entries k row at = absurd cc
by_place head node (r ∷ rows) parts entries zero row at =
    let same : r ≡ row = cc in
    let here : IsBracketRow head node r = record { numbers = parts.0; entries = entries.0 } in
    let start : 0 + node ≡ node = omega arith in
    rw start (subst (λ (x : BracketRow). IsBracketRow head node x) same here)
by_place head node (r ∷ rows) parts entries (suc k) row at =
    let number : k + (node + 1) ≡ suc k + node = omega arith in
    rw number at (by_place head (node + 1) rows parts.1 entries.1 k row at)

pub from_places : (head : PolicyHead) (node : ℕ) (rows : List BracketRow) → ((k : ℕ) (row : BracketRow) → slice_get rows k ≡ Some row → IsBracketRow head (k + node) row) → AreParts head node rows × AllByRecursion (λ row. All IsBracketEntry row.entries) rows
from_places head node [] each = (tt, tt)
from_places head node (row ∷ rows) each =
    let start : 0 + node ≡ node = omega arith in
    let here : IsBracketRow head node row = rw start at (each 0 row refl) in
    let others = from_places head (node + 1) rows (λ k r at. let number : suc k + node ≡ k + (node + 1) = omega arith in rw number at (each (suc k) r at)) in
    ((here.numbers, others.0), (here.entries, others.1))

-- ---- whole tables

made : PolicyHead → List BracketRow → Bracket
made head rows = record { head = head; rows = rows }

pub parts_are : (head : PolicyHead) (rows : List BracketRow) → IsHead head → length rows ≡ head.nodes → None ≡ bracket_rows_fault head 1 rows → All (λ row. All IsBracketEntry row.entries) rows → IsBracket (record { head = head; rows = rows })
parts_are head rows fits size none entries = record {
  head = fits;
  size = size;
  rows = by_place head 1 rows (rows_fit head 1 rows (sym none)) (recursion_from_All (λ row. All IsBracketEntry row.entries) rows entries);
}

pub head_at_fault : (head : PolicyHead) (rows : List BracketRow) → is_head head ≡ false → bracket_parts_fault head rows ≡ Some (Range 0)
unfolding bracket_parts_fault
head_at_fault head rows e = first_of_found (not (is_head head)) (Range 0) _ (not_from_false _ e)

pub head_passes : (head : PolicyHead) (rows : List BracketRow) → is_head head ≡ true → bracket_parts_fault head rows ≡ bracket_rows_fault head 1 rows
unfolding bracket_parts_fault
head_passes head rows e = first_of_passed (not (is_head head)) (Range 0) _ (not_from_true _ e) ∙ first_of_one _

pub faulty : (head : PolicyHead) (rows : List BracketRow) (fault : PolicyFault) → Some fault ≡ bracket_parts_fault head rows → IsBracket (record { head = head; rows = rows }) → ⊥
faulty head rows fault e h =
    let passes = head_passes head rows (fit_head head h.head) in
    let none = fit_rows head 1 rows (from_places head 1 rows h.rows).0 in
    cc

-- ---- how large a table is

pub part_bound : (head : PolicyHead) (part : RowHead) → IsHead head → IsPart head part → part.count ≤ 65536
part_bound head part fits is =
    ⊎_elim
    (λ (few : part.count < 1). omega arith)
    (λ (some : 1 ≤ part.count). omega (arith, is.last some, fits.budget))
    (cases_lt part.count 1)

pub row_bound : (head : PolicyHead) (node : ℕ) (row : BracketRow) → IsHead head → IsBracketRow head node row → length row.entries ≤ 65536
row_bound head node row fits is = part_bound head (part_head node row) fits is.numbers

rows_small : (head : PolicyHead) (node : ℕ) (rows : List BracketRow) → IsHead head → AreParts head node rows → AllByRecursion (λ row. length row.entries ≤ 65536) rows
rows_small head node [] fits are = tt
rows_small head node (row ∷ rows) fits are = (part_bound head (part_head node row) fits are.0, rows_small head (node + 1) rows fits are.1)

pub cells_bound : (table : Bracket) → IsBracket table → bracket_cells table ≤ 65536 * length table.rows
cells_bound table is =
    let each = All-from_recursion (λ row. length row.entries ≤ 65536) table.rows (rows_small table.head 1 table.rows is.head (from_places table.head 1 table.rows is.rows).0) in
    omega (arith, sum_by-le (λ row. length row.entries) 65536 table.rows each)

-- ---- a loop over rows

pub rows_go_on : (head : PolicyHead) (node i : ℕ) (rows : List BracketRow) (row : BracketRow) (total : Option PolicyFault) → i < length rows → row ≡ get_or rows i row → part_fault head (part_head node row) ≡ None
    → bracket_rows_fault head node (drop i rows) ≡ total → bracket_rows_fault head (node + 1) (drop (i + 1) rows) ≡ total
unfolding bracket_rows_fault
rows_go_on head node i rows row total lt is none so_far =
    let next : bracket_rows_fault head node (drop i rows) ≡ bracket_rows_fault head node (get_or rows i row ∷ drop (i + 1) rows) = at_drop_more (bracket_rows_fault head node) rows i row lt in
    let here : bracket_rows_fault head node (get_or rows i row ∷ drop (i + 1) rows) ≡ bracket_rows_fault head node (row ∷ drop (i + 1) rows) = ap (λ (r : BracketRow). bracket_rows_fault head node (r ∷ drop (i + 1) rows)) (sym is) in
    let passed : bracket_rows_fault head node (row ∷ drop (i + 1) rows) ≡ bracket_rows_fault head (node + 1) (drop (i + 1) rows) = rw none (first_of_one _) in
    sym passed ∙ sym here ∙ sym next ∙ so_far

pub rows_end : (head : PolicyHead) (node i : ℕ) (rows : List BracketRow) (row : BracketRow) (fault : PolicyFault) (total : Option PolicyFault) → i < length rows → row ≡ get_or rows i row → part_fault head (part_head node row) ≡ Some fault
    → bracket_rows_fault head node (drop i rows) ≡ total → Some fault ≡ total
unfolding bracket_rows_fault
rows_end head node i rows row fault total lt is some so_far =
    let next : bracket_rows_fault head node (drop i rows) ≡ bracket_rows_fault head node (get_or rows i row ∷ drop (i + 1) rows) = at_drop_more (bracket_rows_fault head node) rows i row lt in
    let here : bracket_rows_fault head node (get_or rows i row ∷ drop (i + 1) rows) ≡ bracket_rows_fault head node (row ∷ drop (i + 1) rows) = ap (λ (r : BracketRow). bracket_rows_fault head node (r ∷ drop (i + 1) rows)) (sym is) in
    let found : bracket_rows_fault head node (row ∷ drop (i + 1) rows) ≡ Some fault = rw some refl in
    sym found ∙ sym here ∙ sym next ∙ so_far

pub rows_done : (head : PolicyHead) (node i : ℕ) (rows : List BracketRow) (total : Option PolicyFault) → length rows ≤ i → bracket_rows_fault head node (drop i rows) ≡ total → None ≡ total
unfolding bracket_rows_fault
rows_done head node i rows total le so_far = sym (at_drop_all (bracket_rows_fault head node) rows i le) ∙ so_far
