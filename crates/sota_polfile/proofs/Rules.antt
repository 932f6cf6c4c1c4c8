-- Tests and facts about tables: no fault is found in parts exactly where they are a table.
use Rattle.std.proofs.Common.{◌≡◌, ℕ, zero, suc, ◌+◌, ◌≤◌, ◌<◌, Bool, true, false, not, List, [], ◌∷◌, length, get_or, drop, map, unwrap_or, Option, Some, None, refl, sym, ap, ◌∙◌, arith}
use Rattle.std.proofs.lemmas.Bool.{leb-true, leb-false, le-leb, lt-leb, eqb-false, ne_eqb, and_parts, and_from}
use Rattle.std.proofs.lemmas.List.{at_drop_more, at_drop_all}
use Rattle.std.specs.List.{AllByRecursion}
use Rattle.std.specs.List.Sorted.{IsStrictlyIncreasing}
use Rattle.sota_polfile.specs.declared.fault.PolicyFault.{PolicyFault}
use Rattle.sota_polfile.specs.declared.fault.PolicyFault.TheVariants.{Order, Range}
use Rattle.sota_polfile.specs.declared.head.PolicyHead.{PolicyHead}
use Rattle.sota_polfile.specs.declared.row.PolicyRow.{PolicyRow}
use Rattle.sota_polfile.specs.declared.row.RowHead.{RowHead}
use Rattle.sota_polfile.specs.Table.{IsHead, IsRowHead, row_head, nodes}
use Rattle.sota_polfile.specs.Faults.{is_head, is_row_head, is_unordered, fault_if, first_of, numbers_fault, rows_fault}

not_true : (b : Bool) → not b ≡ true → b ≡ false
not_true true e = absurd cc
not_true false e = refl

pub head_fits : (head : PolicyHead) → is_head head ≡ true → IsHead head
head_fits head e =
    let p = and_parts _ _ e in
    let q = and_parts _ _ p.1 in
    let r = and_parts _ _ q.1 in
    let s = and_parts _ _ r.1 in
    let n = and_parts _ _ p.0 in
    let d = and_parts _ _ q.0 in
    let o = and_parts _ _ r.0 in
    let c = and_parts _ _ s.1 in
    record {
      nodes = (leb-true _ _ n.0, leb-true _ _ n.1);
      dest = (leb-true _ _ d.0, leb-true _ _ d.1);
      origin = (leb-true _ _ o.0, leb-true _ _ o.1);
      budget = leb-true _ _ s.0;
      scale = (leb-true _ _ c.0, leb-true _ _ c.1);
    }

pub fit_head : (head : PolicyHead) → IsHead head → is_head head ≡ true
fit_head head h =
    and_from _ _ (and_from _ _ (le-leb _ _ h.nodes.0) (le-leb _ _ h.nodes.1))
    (and_from _ _ (and_from _ _ (le-leb _ _ h.dest.0) (le-leb _ _ h.dest.1))
    (and_from _ _ (and_from _ _ (le-leb _ _ h.origin.0) (le-leb _ _ h.origin.1))
    (and_from _ _ (le-leb _ _ h.budget) (and_from _ _ (le-leb _ _ h.scale.0) (le-leb _ _ h.scale.1)))))

pub row_head_fits : (head : PolicyHead) (row : RowHead) → is_row_head head row ≡ true → IsRowHead head row
row_head_fits head row e =
    let p = and_parts _ _ e in
    let q = and_parts _ _ p.1 in
    let r = and_parts _ _ q.1 in
    let n = and_parts _ _ p.0 in
    record {
      node = (leb-true _ _ n.0, leb-true _ _ n.1);
      elsewhere = eqb-false _ _ (not_true _ q.0);
      some = leb-true _ _ r.0;
      last = leb-true _ _ r.1;
    }

pub fit_row_head : (head : PolicyHead) (row : RowHead) → IsRowHead head row → is_row_head head row ≡ true
fit_row_head head row h =
    and_from _ _ (and_from _ _ (le-leb _ _ h.node.0) (le-leb _ _ h.node.1))
    (and_from _ _ (ap not (ne_eqb _ _ h.elsewhere))
    (and_from _ _ (le-leb _ _ h.some) (le-leb _ _ h.last)))

-- ---- first faults

pub first_of_found : (b : Bool) (fault : PolicyFault) (more : List (Option PolicyFault)) → b ≡ true → first_of (fault_if b fault ∷ more) ≡ Some fault
first_of_found true fault more e = refl
first_of_found false fault more e = absurd cc

pub first_of_passed : (b : Bool) (fault : PolicyFault) (more : List (Option PolicyFault)) → b ≡ false → first_of (fault_if b fault ∷ more) ≡ first_of more
first_of_passed true fault more e = absurd cc
first_of_passed false fault more e = refl

-- a test that found no fault
pub test_failed : (b : Bool) (fault : PolicyFault) (more : List (Option PolicyFault)) → first_of (fault_if b fault ∷ more) ≡ None → (b ≡ false) × (first_of more ≡ None)
test_failed true fault more e = absurd cc
test_failed false fault more e = (refl, e)

pub none_first : (one : Option PolicyFault) (more : List (Option PolicyFault)) → first_of (one ∷ more) ≡ None → (one ≡ None) × (first_of more ≡ None)
none_first None more e = (refl, e)
none_first (Some fault) more e = absurd cc

pub first_of_one : (one : Option PolicyFault) → first_of (one ∷ []) ≡ one
first_of_one None = refl
first_of_one (Some fault) = refl

pub numbers_fit : (head : PolicyHead) (before : Option ℕ) (number : ℕ) (row : RowHead) → numbers_fault head before number row ≡ None → (is_unordered before row.node ≡ false) × IsRowHead head row
unfolding numbers_fault
numbers_fit head before number row e =
    let p = test_failed (is_unordered before row.node) (Order number) (fault_if (not (is_row_head head row)) (Range number) ∷ []) e in
    let q = test_failed (not (is_row_head head row)) (Range number) [] p.1 in
    (p.0, row_head_fits head row (true_of_not _ q.0))
  where
    true_of_not : (b : Bool) → not b ≡ false → b ≡ true
    true_of_not true e = refl
    true_of_not false e = absurd cc

pub fit_numbers : (head : PolicyHead) (before : Option ℕ) (number : ℕ) (row : RowHead) → is_unordered before row.node ≡ false → IsRowHead head row → numbers_fault head before number row ≡ None
unfolding numbers_fault
fit_numbers head before number row up fits =
    first_of_passed (is_unordered before row.node) (Order number) (fault_if (not (is_row_head head row)) (Range number) ∷ []) up
    ∙ first_of_passed (not (is_row_head head row)) (Range number) [] (ap not (fit_row_head head row fits))

-- ---- rising nodes

-- each node is greater than the one before it, the first than `before` where there is one
abbrev pub Rises : Option ℕ → List ℕ → Type 0
Rises before [] = Unit {0}
Rises before (n ∷ ns) = (is_unordered before n ≡ false) × Rises (Some n) ns

pub increasing : (before : Option ℕ) (ns : List ℕ) → Rises before ns → IsStrictlyIncreasing ns
increasing before [] h k lt = absurd (omega arith)
increasing before (n ∷ []) h k lt = absurd (omega arith)
increasing before (n ∷ m ∷ ns) h zero lt = leb-false _ _ h.1.0
increasing before (n ∷ m ∷ ns) h (suc k) lt =
    let inner : k + 1 < length (m ∷ ns) = omega arith in
    let step = increasing (Some n) (m ∷ ns) h.1 k inner in
    rw (suc_add k) step
  where
    suc_add : (k : ℕ) → suc k + 1 ≡ suc (k + 1)
    suc_add k = omega arith

increasing_rest : (n : ℕ) (ns : List ℕ) → IsStrictlyIncreasing (n ∷ ns) → IsStrictlyIncreasing ns
increasing_rest n ns h k lt =
    let outer : suc k + 1 < length (n ∷ ns) = omega arith in
    let e : suc k + 1 ≡ suc (k + 1) = omega arith in
    rw e at (h (suc k) outer)

pub rises : (before : Option ℕ) (ns : List ℕ) → ((n : ℕ) (more : List ℕ) → ns ≡ n ∷ more → is_unordered before n ≡ false) → IsStrictlyIncreasing ns → Rises before ns
rises before [] first h = tt
rises before (n ∷ []) first h = (first n [] refl, tt)
rises before (n ∷ m ∷ ns) first h =
    (first n (m ∷ ns) refl, rises (Some n) (m ∷ ns) (λ k more e. lt-leb _ _ (rw (head_is m k ns more e) at (h 0 (omega arith)))) (increasing_rest n (m ∷ ns) h))
  where
    head_is : (m k : ℕ) (ns more : List ℕ) → (m ∷ ns) ≡ (k ∷ more) → m ≡ k
    head_is m k ns more e = cc

pub all_rise : (ns : List ℕ) → IsStrictlyIncreasing ns → Rises None ns
all_rise ns h = rises None ns (λ n more e. refl) h

-- ---- rows

-- the rows of a table, behind a row of the node `before` where there is one
pub record AreRows (head : PolicyHead) (before : Option ℕ) (rows : List PolicyRow) : Type 0 where
  pub numbers : AllByRecursion (λ row. IsRowHead head (row_head row)) rows
  pub rising : Rises before (nodes rows)

pub rows_fit : (head : PolicyHead) (before : Option ℕ) (number : ℕ) (rows : List PolicyRow) → rows_fault head before number (map row_head rows) ≡ None → AreRows head before rows
unfolding rows_fault
rows_fit head before number [] e = record { numbers = tt; rising = tt }
rows_fit head before number (row ∷ rows) e =
    let p = none_first (numbers_fault head before number (row_head row)) (rows_fault head (Some row.node) (number + 1) (map row_head rows) ∷ []) e in
    let one = numbers_fit head before number (row_head row) p.0 in
    let others = rows_fit head (Some row.node) (number + 1) rows (sym (first_of_one _) ∙ p.1) in
    record { numbers = (one.1, others.numbers); rising = (one.0, others.rising) }

pub fit_rows : (head : PolicyHead) (before : Option ℕ) (number : ℕ) (rows : List PolicyRow) → AreRows head before rows → rows_fault head before number (map row_head rows) ≡ None
unfolding rows_fault
fit_rows head before number [] fits = refl
fit_rows head before number (row ∷ rows) fits =
    let one : numbers_fault head before number (row_head row) ≡ None = fit_numbers head before number (row_head row) fits.rising.0 fits.numbers.0 in
    let others : rows_fault head (Some row.node) (number + 1) (map row_head rows) ≡ None = fit_rows head (Some row.node) (number + 1) rows (record { numbers = fits.numbers.1; rising = fits.rising.1 }) in
    rw (one, others) refl

-- nodes that rise from 1 are at most as many as the greatest
pub rows_bound : (head : PolicyHead) (before : Option ℕ) (rows : List PolicyRow) → AreRows head before rows → unwrap_or before 0 ≤ head.nodes → unwrap_or before 0 + length rows ≤ head.nodes
rows_bound head before [] fits le = omega arith
rows_bound head None (row ∷ rows) fits le =
    omega (arith, fits.numbers.0.node.0, rows_bound head (Some row.node) rows (record { numbers = fits.numbers.1; rising = fits.rising.1 }) fits.numbers.0.node.1)
rows_bound head (Some node) (row ∷ rows) fits le =
    omega (arith, leb-false _ _ fits.rising.0, rows_bound head (Some row.node) rows (record { numbers = fits.numbers.1; rising = fits.rising.1 }) fits.numbers.0.node.1)

pub above_before : (before : Option ℕ) (node : ℕ) → is_unordered before node ≡ false → 1 ≤ node → unwrap_or before 0 + 1 ≤ node
above_before None node up some = some
above_before (Some other) node up some = omega (arith, leb-false _ _ up)

-- ---- a loop over rows

pub rows_go_on : (head : PolicyHead) (before : Option ℕ) (number i : ℕ) (rows : List PolicyRow) (row : PolicyRow) (total : Option PolicyFault) → i < length rows → row ≡ get_or rows i row → numbers_fault head before number (row_head row) ≡ None
    → rows_fault head before number (map row_head (drop i rows)) ≡ total → rows_fault head (Some row.node) (number + 1) (map row_head (drop (i + 1) rows)) ≡ total
unfolding rows_fault
rows_go_on head before number i rows row total lt is none so_far =
    let more : rows_fault head before number (map row_head (drop i rows)) ≡ rows_fault head before number (map row_head (get_or rows i row ∷ drop (i + 1) rows)) = at_drop_more (λ (rs : List PolicyRow). rows_fault head before number (map row_head rs)) rows i row lt in
    let here : rows_fault head before number (map row_head (get_or rows i row ∷ drop (i + 1) rows)) ≡ rows_fault head before number (map row_head (row ∷ drop (i + 1) rows)) = ap (λ (r : PolicyRow). rows_fault head before number (map row_head (r ∷ drop (i + 1) rows))) (sym is) in
    let passed : rows_fault head before number (map row_head (row ∷ drop (i + 1) rows)) ≡ rows_fault head (Some row.node) (number + 1) (map row_head (drop (i + 1) rows)) = rw none (first_of_one _) in
    sym passed ∙ sym here ∙ sym more ∙ so_far

pub rows_end : (head : PolicyHead) (before : Option ℕ) (number i : ℕ) (rows : List PolicyRow) (row : PolicyRow) (fault : PolicyFault) (total : Option PolicyFault) → i < length rows → row ≡ get_or rows i row → numbers_fault head before number (row_head row) ≡ Some fault
    → rows_fault head before number (map row_head (drop i rows)) ≡ total → Some fault ≡ total
unfolding rows_fault
rows_end head before number i rows row fault total lt is some so_far =
    let more : rows_fault head before number (map row_head (drop i rows)) ≡ rows_fault head before number (map row_head (get_or rows i row ∷ drop (i + 1) rows)) = at_drop_more (λ (rs : List PolicyRow). rows_fault head before number (map row_head rs)) rows i row lt in
    let here : rows_fault head before number (map row_head (get_or rows i row ∷ drop (i + 1) rows)) ≡ rows_fault head before number (map row_head (row ∷ drop (i + 1) rows)) = ap (λ (r : PolicyRow). rows_fault head before number (map row_head (r ∷ drop (i + 1) rows))) (sym is) in
    let found : rows_fault head before number (map row_head (row ∷ drop (i + 1) rows)) ≡ Some fault = rw some refl in
    sym found ∙ sym here ∙ sym more ∙ so_far

pub rows_done : (head : PolicyHead) (before : Option ℕ) (number i : ℕ) (rows : List PolicyRow) (total : Option PolicyFault) → length rows ≤ i
    → rows_fault head before number (map row_head (drop i rows)) ≡ total → None ≡ total
unfolding rows_fault
rows_done head before number i rows total le so_far =
    sym (at_drop_all (λ (rs : List PolicyRow). rows_fault head before number (map row_head rs)) rows i le) ∙ so_far
