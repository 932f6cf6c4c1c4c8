-- The policy of an ask has an entry for each pair of its region, so that it is small where the
-- region is.
use Rattle.std.proofs.Common.{◌≡◌, ℕ, zero, suc, ◌+◌, ◌≤◌, ◌<◌, ◌++◌, List, [], ◌∷◌}
use Rattle.std.proofs.Common.{length, refl, ap, ◌∙◌, arith, ⊎_elim}
use Rattle.std.specs.List.{filter_map, range_with_len, sum, sum_by}
use Rattle.std.proofs.lemmas.Bool.{cases_lt, lt-ltb, le-ltb}
use Rattle.std.proofs.lemmas.List.Sums.{sum_by-append}
use Rattle.std.proofs.lemmas.List.Elements.{filter_map-append}
use Rattle.std.proofs.lemmas.List.FromFn.{length-map-range_with_len}
use Rattle.sota_network.specs.Network.{Net}
use Rattle.sota_network.specs.Numbers.{listed}
use Rattle.sota_network.specs.Region.{pairs_at, table_cells}
use Rattle.sota_bounds.specs.Faults.{TABLE_LIMIT}
use Rattle.sota_polfile.specs.Table.{cells}
use Rattle.sota_polfile.specs.declared.row.PolicyRow.{PolicyRow}
use Rattle.sota_check.specs.Planned.{grid_entry}
use Rattle.sota_session.specs.Plans.{first_budget, plan_row, row_of, plan_table}
use Rattle.sota_session.specs.declared.ask.Ask.{Ask}

abbrev pub entries : List PolicyRow → ℕ
entries rows = sum_by (λ row. length row.entries) rows

range_more : (a n : ℕ) → range_with_len a (suc n) ≡ range_with_len a n ++ (a + n) ∷ []
range_more a zero = ap (λ (b : ℕ). b ∷ []) (omega arith)
range_more a (suc n) = ap (λ (rest : List ℕ). a ∷ rest)
    (range_more (a + 1) n ∙ ap (λ (b : ℕ). range_with_len (a + 1) n ++ b ∷ []) (omega arith))

nodes_more : (n : ℕ) → range_with_len 1 (suc n) ≡ range_with_len 1 n ++ suc n ∷ []
nodes_more n =
    range_more 1 n ∙ ap (λ (b : ℕ). range_with_len 1 n ++ b ∷ []) (omega arith)

-- a node has as many entries as pairs
row_entries : (net : Net) (ask : Ask) (i : ℕ)
    → entries (filter_map (row_of net ask) (i ∷ []))
    ≡ pairs_at net ask.origin ask.dest ask.budget i
row_entries net ask i =
    let count = pairs_at net ask.origin ask.dest ask.budget i in
    let many : length (plan_row net ask i).entries ≡ count =
    length-map-range_with_len (grid_entry net ask.dest i) (first_budget net ask i) count in
    ⊎_elim
    (λ (some : 0 < count). rw (lt-ltb 0 count some) (omega (arith, many)))
    (λ (none : count ≤ 0). rw (le-ltb 0 count none) (omega (arith, none)))
    (cases_lt 0 count)

-- and so have the first nodes together
rows_entries : (net : Net) (ask : Ask) (n : ℕ)
    → entries (filter_map (row_of net ask) (range_with_len 1 n))
    ≡ sum (listed (λ i. pairs_at net ask.origin ask.dest ask.budget i) n)
rows_entries net ask zero = refl
rows_entries net ask (suc n) =
    let pairs : ℕ → ℕ = λ i. pairs_at net ask.origin ask.dest ask.budget i in
    let before = rows_entries net ask n in
    let last = row_entries net ask (suc n) in
    let all = sum_by-append (λ (count : ℕ). count) (listed pairs n) (pairs (suc n) ∷ []) in
    ap (λ (nodes : List ℕ). entries (filter_map (row_of net ask) nodes)) (nodes_more n)
    ∙ ap entries (filter_map-append (row_of net ask) (range_with_len 1 n) (suc n ∷ []))
    ∙ sum_by-append (λ (row : PolicyRow). length row.entries)
    (filter_map (row_of net ask) (range_with_len 1 n))
    (filter_map (row_of net ask) (suc n ∷ []))
    ∙ omega (arith, before, last, all)

-- the policy of an ask is no larger than its region
pub few_cells : (net : Net) (ask : Ask)
    → table_cells net ask.origin ask.dest ask.budget ≤ TABLE_LIMIT
    → cells (plan_table net ask) ≤ TABLE_LIMIT
unfolding plan_table
few_cells net ask fits =
    let count = rows_entries net ask net.nodes in
    omega (arith, count, fits)
