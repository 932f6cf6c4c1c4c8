-- The rows of what was planned for an ask are those of its policy, and make a table.
use Rattle.std.proofs.Common.{ℕ, zero, suc, ◌≡◌, ◌≢◌, ◌+◌, ◌-◌, ◌<◌, ◌≤◌, cond, List, [], ◌∷◌, map, length, get_or, Option, Some, None, refl, sym, ◌∙◌, ap, arith, ⊎_elim, subst}
use Rattle.std.specs.Option.{is_some}
use Rattle.std.specs.List.{All, filter, filter_map, cons_option, range_with_len}
use Rattle.std.specs.List.Sorted.{IsStrictlyIncreasing}
use Rattle.std.proofs.lemmas.Bool.{cases_lt, lt-ltb, le-ltb}
use Rattle.std.proofs.lemmas.List.Elements.{All-nil, All-cons}
use Rattle.std.proofs.lemmas.List.FromFn.{length-range_with_len, length-map-range_with_len, get_or-range_with_len}
use Rattle.std.proofs.lemmas.List.Kept.{IsStrictlyIncreasing-filter}
use Rattle.sota_network.specs.Network.{Net, IsNode}
use Rattle.sota_network.specs.Numbers.{listed}
use Rattle.sota_network.specs.Region.{pairs_at, need}
use Rattle.sota_bounds.specs.Search.{time_at}
use Rattle.sota_bounds.specs.Cells.{listed_need, pairs_by_need}
use Rattle.sota_bounds.specs.Regions.{IsRegion}
use Rattle.sota_bounds.specs.declared.ask.AskRegion.{AskRegion}
use Rattle.sota_tables.specs.Views.{TablesView}
use Rattle.sota_polfile.specs.Entry.{IsEntry}
use Rattle.sota_polfile.specs.Table.{IsHead, IsRowHead, IsTable, row_head, nodes}
use Rattle.sota_polfile.specs.declared.row.PolicyRow.{PolicyRow}
use Rattle.sota_check.specs.Planned.{grid_entry, ask_head}
use Rattle.sota_session.specs.Plans.{row_of, plan_table}
use Rattle.sota_session.specs.Rows.{IsPlanned, entry_in, row_from, row_in}
use Rattle.sota_session.specs.declared.ask.Ask.{Ask}

-- ---- lists over a range

pub mapped-same : {X : Type 0} (f g : ℕ → X) (a n : ℕ) → ((t : ℕ) → a ≤ t → t < a + n → f t ≡ g t) → map f (range_with_len a n) ≡ map g (range_with_len a n)
mapped-same f g a zero same = refl
mapped-same f g a (suc n) same =
    let rest = mapped-same f g (a + 1) n (λ t low high. same t (omega arith) (omega arith)) in
    rw (same a (omega arith) (omega arith), rest) refl

pub found-same : {X : Type 0} (f g : ℕ → Option X) (a n : ℕ) → ((t : ℕ) → a ≤ t → t < a + n → f t ≡ g t) → filter_map f (range_with_len a n) ≡ filter_map g (range_with_len a n)
found-same f g a zero same = refl
found-same f g a (suc n) same =
    let rest = found-same f g (a + 1) n (λ t low high. same t (omega arith) (omega arith)) in
    rw (same a (omega arith) (omega arith), rest) refl

added-all : {X : Type 0} (P : X → Type 0) (found : Option X) (xs : List X) → ((x : X) → found ≡ Some x → P x) → All P xs → All P (cons_option found xs)
added-all P None xs here rest = rest
added-all P (Some x) xs here rest = All-cons P x xs (here x refl) rest

pub found-all : {X : Type 0} (P : X → Type 0) (f : ℕ → Option X) (a n : ℕ) → ((t : ℕ) → a ≤ t → t < a + n → (x : X) → f t ≡ Some x → P x) → All P (filter_map f (range_with_len a n))
found-all P f a zero holds = All-nil P
found-all P f a (suc n) holds =
    added-all P (f a) (filter_map f (range_with_len (a + 1) n)) (holds a (omega arith) (omega arith))
    (found-all P f (a + 1) n (λ t low high. holds t (omega arith) (omega arith)))

numbered : (found : Option PolicyRow) (i : ℕ) (rows : List PolicyRow) (is : List ℕ) → ((row : PolicyRow) → found ≡ Some row → row.node ≡ i) → nodes rows ≡ is → nodes (cons_option found rows) ≡ cond (is_some found) (i ∷ is) is
numbered None i rows is here rest = rest
numbered (Some row) i rows is here rest = rw (here row refl, rest) refl

numbers-are : (f : ℕ → Option PolicyRow) → ((i : ℕ) (row : PolicyRow) → f i ≡ Some row → row.node ≡ i) → (xs : List ℕ) → nodes (filter_map f xs) ≡ filter (λ i. is_some (f i)) xs
numbers-are f here [] = refl
numbers-are f here (x ∷ xs) = numbered (f x) x (filter_map f xs) (filter (λ i. is_some (f i)) xs) (here x) (numbers-are f here xs)

range-rises : (a n : ℕ) → IsStrictlyIncreasing (range_with_len a n)
range-rises a n k within =
    let last : k + 1 < n = omega (arith, within, length-range_with_len a n) in
    omega (arith, get_or-range_with_len a n k 0 (omega arith), get_or-range_with_len a n (k + 1) 0 last)

pub found-rise : (f : ℕ → Option PolicyRow) → ((i : ℕ) (row : PolicyRow) → f i ≡ Some row → row.node ≡ i) → (a n : ℕ) → IsStrictlyIncreasing (nodes (filter_map f (range_with_len a n)))
found-rise f here a n =
    subst IsStrictlyIncreasing (sym (numbers-are f here (range_with_len a n))) (IsStrictlyIncreasing-filter (λ i. is_some (f i)) (range_with_len a n) (range-rises a n))

-- ---- a row of a plan

-- a row that is made: from the least time to the destination up to below the need
pub record IsMade (region : AskRegion) (i : ℕ) (row : PolicyRow) : Type 0 where
  pub node : row.node ≡ i
  pub time : time_at region.least i ≡ Some row.first
  pub count : row.first + length row.entries ≡ listed_need region.need i
  pub some : 1 ≤ length row.entries

made-from : (region : AskRegion) (tables : TablesView) (i : ℕ) (time : Option ℕ) (row : PolicyRow) → time_at region.least i ≡ time → row_from region tables i time ≡ Some row → IsMade region i row
made-from region tables i None row at is = absurd (cc)
made-from region tables i (Some first) row at is =
    ⊎_elim
    (λ (less : first < listed_need region.need i).
    let entries = map (entry_in tables i) (range_with_len first (listed_need region.need i - first)) in
    let many : length entries ≡ listed_need region.need i - first = length-map-range_with_len (entry_in tables i) first (listed_need region.need i - first) in
    let made : PolicyRow = record { node = i; first = first; entries = entries } in
    let here : Some made ≡ Some row = (rw (lt-ltb first (listed_need region.need i) less) at is) in
    let same : made ≡ row = cc in
    subst (IsMade region i) same (record { node = refl; time = at; count = omega (arith, many, less); some = omega (arith, many, less) }))
    (λ (past : listed_need region.need i ≤ first).
    let none : None ≡ Some row = (rw (le-ltb first (listed_need region.need i) past) at is) in
    absurd (cc))
    (cases_lt first (listed_need region.need i))

pub row-made : (region : AskRegion) (tables : TablesView) (i : ℕ) (row : PolicyRow) → row_in region tables i ≡ Some row → IsMade region i row
row-made region tables i row is = made-from region tables i (time_at region.least i) row refl is

-- ---- what was planned for an ask, and the laws of lists by number and of the region's destination
pub record IsPlannedFor (net : Net) (ask : Ask) (region : AskRegion) (tables : TablesView) : Type 0 where
  pub made : IsPlanned region tables net
  pub asked : (region.origin ≡ ask.origin) × (region.dest ≡ ask.dest) × (region.budget ≡ ask.budget)
  pub entry : (f : ℕ → ℕ) (n i other : ℕ) → 1 ≤ i → i ≤ n → get_or (listed f n) (i - 1) other ≡ f i
  pub dest_pairs : pairs_at net ask.origin ask.dest ask.budget ask.dest ≡ 0

module _ (net : Net) (ask : Ask) (region : AskRegion) (tables : TablesView) (is : IsPlannedFor net ask region tables) where
  abbrev needed : ℕ → ℕ
  needed i = listed_need region.need i

  pub region-is : IsRegion region net ask.origin ask.dest ask.budget
  region-is = rw (← is.asked.0, ← is.asked.1, ← is.asked.2) is.made.region_is

  need-is : (i : ℕ) → IsNode net i → needed i ≡ need net ask.origin ask.dest ask.budget i
  need-is i node =
      ap (λ (needs : List ℕ). listed_need needs i) region-is.need
      ∙ is.entry (need net ask.origin ask.dest ask.budget) net.nodes i 0 node.0 node.1

  pub need-within : (i : ℕ) → IsNode net i → needed i ≤ ask.budget + 1
  need-within i node =
      let few : i - 1 < length region.need = omega (arith, node.0, node.1, is.made.agrees.need, is.made.nodes) in
      region-is.within (i - 1) 0 few

  entry-is : (i t : ℕ) → IsNode net i → t < needed i → entry_in tables i t ≡ grid_entry net ask.dest i t
  entry-is i t node less =
      let known = is.made.agrees.known i t (node.0, (let high : i ≤ length tables.fronts = omega (arith, node.1, is.made.nodes) in high)) less in
      rw (is.made.choice_is i t known, is.made.lower i t known, is.asked.1) refl

  row-by : (i : ℕ) → IsNode net i → (time : Option ℕ) → pairs_at net ask.origin ask.dest ask.budget i ≡ pairs_by_need time (needed i) → row_from region tables i time ≡ row_of net ask i
  row-by i node None pairs = rw pairs refl
  row-by i node (Some first) pairs =
      ⊎_elim
      (λ (less : first < needed i).
      let first_is : needed i - (needed i - first) ≡ first = omega arith in
      let some : 0 < needed i - first = omega arith in
      let entries : map (entry_in tables i) (range_with_len first (needed i - first)) ≡ map (grid_entry net ask.dest i) (range_with_len first (needed i - first)) =
      mapped-same (entry_in tables i) (grid_entry net ask.dest i) first (needed i - first) (λ t low high. entry-is i t node (omega (arith, high, less))) in
      rw (pairs, lt-ltb 0 (needed i - first) some, lt-ltb first (needed i) less, sym (need-is i node), first_is, entries) refl)
      (λ (past : needed i ≤ first).
      let none : needed i - first ≡ 0 = omega arith in
      rw (pairs, none, le-ltb first (needed i) past) refl)
      (cases_lt first (needed i))

  pub row-is : (i : ℕ) → IsNode net i → row_in region tables i ≡ row_of net ask i
  row-is i node = row-by i node (time_at region.least i) (region-is.pairs i node)

  pub rows-are : filter_map (row_in region tables) (range_with_len 1 net.nodes) ≡ filter_map (row_of net ask) (range_with_len 1 net.nodes)
  rows-are = found-same (row_in region tables) (row_of net ask) 1 net.nodes (λ i low high. row-is i (low, (let z : i ≤ net.nodes = omega arith in z)))

  -- ---- the rows make a table
  some-pair : (i : ℕ) (row : PolicyRow) → IsNode net i → row_in region tables i ≡ Some row → i ≢ ask.dest
  some-pair i row node is_row at =
      let made = row-made region tables i row is_row in
      let pairs : pairs_at net ask.origin ask.dest ask.budget i ≡ needed i - row.first = region-is.pairs i node ∙ ap (λ (time : Option ℕ). pairs_by_need time (needed i)) made.time in
      let none : pairs_at net ask.origin ask.dest ask.budget i ≡ 0 = ap (pairs_at net ask.origin ask.dest ask.budget) at ∙ is.dest_pairs in
      omega (arith, made.count, made.some, pairs, none)

  row-numbers : (i : ℕ) (row : PolicyRow) → IsNode net i → row_in region tables i ≡ Some row → IsRowHead (ask_head net ask.origin ask.dest ask.budget) (row_head row)
  row-numbers i row node is_row =
      let made = row-made region tables i row is_row in
      record {
        node = subst (λ (n : ℕ). (1 ≤ n) × (n ≤ net.nodes)) (sym made.node) node;
        elsewhere = λ at. some-pair i row node is_row (sym made.node ∙ at);
        some = made.some;
        last = omega (arith, made.count, made.some, need-within i node);
      }

  pub rows-numbers : All (λ row. IsRowHead (ask_head net ask.origin ask.dest ask.budget) (row_head row)) (filter_map (row_in region tables) (range_with_len 1 net.nodes))
  rows-numbers =
      found-all (λ row. IsRowHead (ask_head net ask.origin ask.dest ask.budget) (row_head row)) (row_in region tables) 1 net.nodes
      (λ i low high row is_row. row-numbers i row (low, (let z : i ≤ net.nodes = omega arith in z)) is_row)

  pub rows-rise : IsStrictlyIncreasing (nodes (filter_map (row_in region tables) (range_with_len 1 net.nodes)))
  rows-rise = found-rise (row_in region tables) (λ i row is_row. (row-made region tables i row is_row).node) 1 net.nodes

  pub rows-table : (rows : List PolicyRow) → rows ≡ filter_map (row_in region tables) (range_with_len 1 net.nodes) → All (λ row. All IsEntry row.entries) rows → IsHead (ask_head net ask.origin ask.dest ask.budget)
      → IsTable (record { head = ask_head net ask.origin ask.dest ask.budget; rows = rows })
  rows-table rows are entries head =
      let numbers = subst (λ (rows : List PolicyRow). All (λ (row : PolicyRow). IsRowHead (ask_head net ask.origin ask.dest ask.budget) (row_head row)) rows) (sym are) rows-numbers in
      record {
        head = head;
        rows = λ k d within. record { numbers = numbers k d within; entries = entries k d within };
        rising = subst (λ (rows : List PolicyRow). IsStrictlyIncreasing (nodes rows)) (sym are) rows-rise;
      }

  pub table-planned : (rows : List PolicyRow) → rows ≡ filter_map (row_in region tables) (range_with_len 1 net.nodes) → record { head = ask_head net ask.origin ask.dest ask.budget; rows = rows } ≡ plan_table net ask
  unfolding plan_table
  table-planned rows are = rw (are, rows-are) refl
