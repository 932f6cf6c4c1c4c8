-- What the first three steps of an ask leave, for the rooms and the order that follow.
use Rattle.std.proofs.Common.{ℕ, zero, suc, ◌≡◌, ◌+◌, ◌-◌, ◌<◌, ◌≤◌, max, not, nat_lt, Bool, true, false, List, [], ◌∷◌, length, get_or, Option, None, Some, refl, sym, ◌∙◌, ap, arith, subst, ⊎_elim, ◌⊎◌}
use Rattle.std.specs.List.{All, sum}
use Rattle.std.proofs.lemmas.Bool.{le-leb, lt-ltb, cases_lt, cases_Bool, true≢false}
use Rattle.std.proofs.lemmas.List.Sums.{sum_by-append}
use Rattle.sota_network.specs.Network.{Net, IsNet, IsNode}
use Rattle.sota_network.specs.Numbers.{listed}
use Rattle.sota_network.specs.Region.{need, pairs_at}
use Rattle.sota_bounds.specs.Search.{time_at}
use Rattle.sota_bounds.specs.Cells.{pairs_by_need}
use Rattle.sota_bounds.specs.Faults.{TABLE_LIMIT}
use Rattle.sota_bounds.specs.Regions.{IsRegion}
use Rattle.sota_bounds.specs.declared.ask.AskRegion.{AskRegion}
use Rattle.sota_network.specs.Laws.{ListLaws}
use Rattle.sota_kept.specs.Ticks.{END_LIMIT, up_to, least_to}
use Rattle.sota_kept.specs.NodeTables.{NodeTable, IsNodeTable, prepared_table}
use Rattle.sota_kept.specs.States.{KEPT_LIMIT, is_dest, started_state, based_state, cells_kept}
use Rattle.sota_kept.specs.TableLists.{state_of, table_of}
use Rattle.sota_kept.specs.Asks.{IsPrepared}
use Rattle.sota_order.specs.Orders.{OrderView, CanBeMet, HeadsSuffice}
use Rattle.sota_tables.specs.Views.{TablesView, table_at, lists_of, row_needed}
use Rattle.sota_plan.proofs.Stepping.{TimesAre, WithinAll, CellsAre}

-- a place within a list has no default
get_or-default : {X : Type 0} (xs : List X) (k : ℕ) (d e : X) → k < length xs → get_or xs k d ≡ get_or xs k e
get_or-default [] k d e h = absurd (omega arith)
get_or-default (x ∷ xs) zero d e h = refl
get_or-default (x ∷ xs) (suc k) d e h = get_or-default xs k d e (omega arith)

-- ---- sums by number
pub sum-last : (f : ℕ → ℕ) (n : ℕ) → sum (listed f (suc n)) ≡ sum (listed f n) + f (suc n)
sum-last f n = sum_by-append (λ (x : ℕ). x) (listed f n) (f (suc n) ∷ []) ∙ omega arith

sum-le : (f g : ℕ → ℕ) (n : ℕ) → ((i : ℕ) → 1 ≤ i → i ≤ n → f i ≤ g i) → sum (listed f n) ≤ sum (listed g n)
sum-le f g zero less = omega arith
sum-le f g (suc n) less =
    omega (arith, sum-last f n, sum-last g n, sum-le f g n (λ i low high. less i low (omega arith)), less (suc n) (omega arith) (omega arith))

-- ---- what is to be kept fits
emptied-over : (fresh : Bool) (least : ℕ) (s : NodeTable) → ((prepared_table fresh true least s).front ≡ 0) × ((prepared_table fresh true least s).base ≡ least)
emptied-over true least s = rw (le-leb 0 least (omega arith)) (refl, refl)
emptied-over false least s = rw (le-leb 0 least (omega arith)) (refl, refl)

not-over : (n : ℕ) → nat_lt KEPT_LIMIT n ≡ false → n ≤ KEPT_LIMIT
not-over n h = ⊎_elim (λ (over : KEPT_LIMIT < n). absurd (true≢false (sym (lt-ltb KEPT_LIMIT n over) ∙ h))) (λ (fits : n ≤ KEPT_LIMIT). fits) (cases_lt KEPT_LIMIT n)

pairs-left : (needed least : ℕ) (time : Option ℕ) → needed ≤ END_LIMIT → least ≡ up_to END_LIMIT time → needed - least ≤ pairs_by_need time needed
pairs-left needed least None within at = omega (arith, at)
pairs-left needed least (Some to) within at = omega (arith, at)

abbrev pub NeedsWithin : Net → ℕ → ℕ → ℕ → Type 0
NeedsWithin net origin dest last = (i : ℕ) → need net origin dest last i ≤ END_LIMIT

-- the law of the needs of asks
abbrev pub NeedsAbove : Net → ℕ → ℕ → ℕ → Type 0
NeedsAbove net origin dest last = (i : ℕ) → (need net origin dest last i ≡ 0) ⊎ ((least_to net dest i < need net origin dest last i) × (need net origin dest last i ≤ END_LIMIT))

pub needs-within : (net : Net) (origin dest last : ℕ) → NeedsAbove net origin dest last → NeedsWithin net origin dest last
needs-within net origin dest last above i =
    ⊎_elim (λ (none : need net origin dest last i ≡ 0). omega arith) (λ (some : (least_to net dest i < need net origin dest last i) × (need net origin dest last i ≤ END_LIMIT)). some.1) (above i)

module _ (laws : ListLaws) (net : Net) (valid : IsNet net) (region : AskRegion) (is : IsRegion region net region.origin region.dest region.budget) (within : NeedsWithin net region.origin region.dest region.budget) where
  pub needs-long : length region.need ≡ net.nodes
  needs-long = ap (λ (xs : List ℕ). length xs) is.need ∙ laws.count (need net region.origin region.dest region.budget) net.nodes

  pub need-is : (i : ℕ) → IsNode net i → get_or region.need (i - 1) 0 ≡ need net region.origin region.dest region.budget i
  need-is i node = ap (λ (xs : List ℕ). get_or xs (i - 1) 0) is.need ∙ laws.entry (need net region.origin region.dest region.budget) net.nodes i 0 node.0 node.1

  pub total-fits : TimesAre → region.table_cells ≤ TABLE_LIMIT → (old new : TablesView) → IsPrepared net region.origin region.dest region.budget (lists_of old) (lists_of new) → CellsAre net region.origin region.dest region.budget old new
      → sum (listed (row_needed new region.need) (length new.fronts)) ≤ KEPT_LIMIT
  total-fits times few old new prepared counted =
      let wanted : ℕ → ℕ = need net region.origin region.dest region.budget in
      let kept : ℕ → ℕ = λ i. max (table_of (lists_of new) i).front (wanted i) - (table_of (lists_of new) i).base in
      let all : sum (listed (row_needed new region.need) (length new.fronts)) ≡ sum (listed kept net.nodes) =
      ap (λ (n : ℕ). sum (listed (row_needed new region.need) n)) prepared.nodes.0
      ∙ ap sum (laws.agree (row_needed new region.need) kept net.nodes (λ i low high. ap (λ (x : ℕ). max (table_at new i).front x - (table_at new i).base) (need-is i (low, high)))) in
      let cells : ℕ = cells_kept net region.origin region.dest region.budget (based_state net region.dest (started_state net region.dest (state_of (lists_of old)))) in
      let fresh : Bool = not (is_dest old.dest region.dest) in
      ⊎_elim
      (λ (over : nat_lt KEPT_LIMIT cells ≡ true).
      let each : (i : ℕ) → 1 ≤ i → i ≤ net.nodes → kept i ≤ pairs_at net region.origin region.dest region.budget i =
      λ i low high.
      let least : ℕ = least_to net region.dest i in
      let made : table_of (lists_of new) i ≡ prepared_table fresh true least (table_of (lists_of old) i) =
      prepared.tables i (low, high) ∙ ap (λ (b : Bool). prepared_table fresh b least (table_of (lists_of old) i)) over in
      let none = emptied-over fresh least (table_of (lists_of old) i) in
      let front : (table_of (lists_of new) i).front ≡ 0 = ap (λ (s : NodeTable). s.front) made ∙ none.0 in
      let base : (table_of (lists_of new) i).base ≡ least = ap (λ (s : NodeTable). s.base) made ∙ none.1 in
      let time : least ≡ up_to END_LIMIT (time_at region.least i) = times net region.dest END_LIMIT region.dest i (time_at region.least i) valid (is.least i (low, high)) in
      let left : get_or region.need (i - 1) 0 - least ≤ pairs_by_need (time_at region.least i) (get_or region.need (i - 1) 0) =
      pairs-left (get_or region.need (i - 1) 0) least (time_at region.least i) (let most = within i in omega (arith, need-is i (low, high))) time in
      omega (arith, front, base, left, need-is i (low, high), is.pairs i (low, high)) in
      let sum-pairs : sum (listed kept net.nodes) ≤ sum (listed (λ i. pairs_at net region.origin region.dest region.budget i) net.nodes) =
      sum-le kept (λ i. pairs_at net region.origin region.dest region.budget i) net.nodes each in
      omega (arith, all, sum-pairs, is.table_cells, few))
      (λ (fits : nat_lt KEPT_LIMIT cells ≡ false).
      let same : cells ≡ sum (listed kept net.nodes) = counted (λ i node. prepared.tables i node ∙ ap (λ (b : Bool). prepared_table fresh b (least_to net region.dest i) (table_of (lists_of old) i)) fits) in
      omega (arith, all, same, not-over cells fits))
      (cases_Bool (nat_lt KEPT_LIMIT cells))

  pub needs-all : WithinAll → All (λ n. n ≤ END_LIMIT) region.need
  needs-all all = subst (λ (xs : List ℕ). All (λ n. n ≤ END_LIMIT) xs) (sym is.need) (all (need net region.origin region.dest region.budget) net.nodes END_LIMIT within)

  -- ---- the order can be met
  pub can-be-met : (v : TablesView) → length v.bases ≡ length v.fronts → ((i : ℕ) → 1 ≤ i → i ≤ length v.fronts → IsNodeTable (table_at v i)) → IsNode net region.dest → (length v.fronts ≡ net.nodes) × (length v.bases ≡ net.nodes) → need net region.origin region.dest region.budget region.dest ≡ 0
      → All (λ n. n ≤ END_LIMIT) region.need → (w : OrderView) → w ≡ record { dest = region.dest; fronts = v.fronts; bases = v.bases; needs = region.need }
      → HeadsSuffice net (record { dest = region.dest; fronts = v.fronts; bases = v.bases; needs = region.need }) → CanBeMet net w
  can-be-met v same-long shapes dest nodes none needs w at heads =
      subst (λ (x : OrderView). CanBeMet net x) (sym at)
      (record {
        nodes = (nodes.0, nodes.1, needs-long);
        limits = (
          λ k d h. let table = shapes (k + 1) (omega arith) (omega (arith, h)) in
              let same : k + 1 - 1 ≡ k = omega arith in
              (let front : get_or v.fronts (k + 1 - 1) 0 ≤ END_LIMIT = table.front in
              subst (λ (x : ℕ). x ≤ END_LIMIT) (ap (λ (j : ℕ). get_or v.fronts j 0) same ∙ get_or-default v.fronts k 0 d h) front),
          λ k d h. let table = shapes (k + 1) (omega arith) (omega (arith, h, same-long)) in
              let same : k + 1 - 1 ≡ k = omega arith in
              (let base : get_or v.bases (k + 1 - 1) 0 ≤ END_LIMIT = table.base in
              subst (λ (x : ℕ). x ≤ END_LIMIT) (ap (λ (j : ℕ). get_or v.bases j 0) same ∙ get_or-default v.bases k 0 d h) base),
          needs,
        );
        dest = need-is region.dest dest ∙ none;
        heads = heads;
      })
