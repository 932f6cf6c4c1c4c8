-- The first three steps of an ask, put together.
use Rattle.std.proofs.Common.{ℕ, ◌≡◌, ◌-◌, ◌<◌, ◌≤◌, max, not, nat_lt, Bool, true, false, if◌then◌else◌, List, length, get_or, Option, None, Some, refl, sym, ◌∙◌, ap, arith, subst, ⊎_elim}
use Rattle.std.specs.List.{All, sum}
use Rattle.std.proofs.lemmas.Bool.{le-leb, lt-leb, cases_lt}
use Rattle.sota_network.specs.Network.{Net, IsNet, IsNode}
use Rattle.sota_network.specs.Numbers.{listed}
use Rattle.sota_network.specs.Region.{need}
use Rattle.sota_network.specs.Walks.{IsLeastTime}
use Rattle.sota_bounds.specs.Search.{time_at}
use Rattle.sota_network.specs.Laws.{ListLaws}
use Rattle.sota_kept.specs.Ticks.{END_LIMIT, up_to, ticks_to, least_to}
use Rattle.sota_kept.specs.NodeTables.{NodeTable, emptied_table, rebased_table, prepared_table}
use Rattle.sota_kept.specs.States.{KEPT_LIMIT, is_dest, started_state, based_state, cells_kept}
use Rattle.sota_kept.specs.TableLists.{state_of, table_of}
use Rattle.sota_kept.specs.Asks.{IsPrepared}
use Rattle.sota_tables.specs.Views.{TablesView, HasNode, SameNodes, table_at, lists_of, row_needed}
use Rattle.sota_plan.specs.Steps.{base_by, cells_of, too_many, StepsTaken}

-- the laws that are used here
abbrev pub TimesAre : Type 0
TimesAre = (net : Net) (dest limit j i : ℕ) (time : Option ℕ) → IsNet net → IsLeastTime net dest i j time → ticks_to net dest limit j i ≡ up_to limit time

abbrev pub WithinAll : Type 0
WithinAll = (f : ℕ → ℕ) (n most : ℕ) → ((i : ℕ) → f i ≤ most) → All (λ x. x ≤ most) (listed f n)

abbrev pub TableIs : Type 0
TableIs = (v : TablesView) (i : ℕ) → table_of (lists_of v) i ≡ table_at v i

up_to-within : (time : Option ℕ) → up_to END_LIMIT time ≤ END_LIMIT
up_to-within None = omega arith
up_to-within (Some n) = omega arith

module _ (laws : ListLaws) (bases : List ℕ) (least : List (Option ℕ)) (n : ℕ) (are : bases ≡ listed (base_by least) n) where
  pub bases-long : length bases ≡ n
  bases-long = ap (λ (xs : List ℕ). length xs) are ∙ laws.count (base_by least) n

  pub bases-within : WithinAll → All (λ (b : ℕ). b ≤ END_LIMIT) bases
  bases-within within = subst (λ (xs : List ℕ). All (λ (b : ℕ). b ≤ END_LIMIT) xs) (sym are) (within (base_by least) n END_LIMIT (λ i. up_to-within (time_at least i)))

  pub bases-at : TimesAre → (net : Net) → IsNet net → (dest i : ℕ) → 1 ≤ i → i ≤ n → IsLeastTime net dest i dest (time_at least i) → get_or bases (i - 1) 0 ≡ least_to net dest i
  bases-at times net valid dest i low high time =
      ap (λ (xs : List ℕ). get_or xs (i - 1) 0) are ∙ laws.entry (base_by least) n i 0 low high ∙ sym (times net dest END_LIMIT dest i (time_at least i) valid time)

-- ---- the three steps one after another
pub steps-taken : (old begun mid new : TablesView) (dest : ℕ) (needs bases : List ℕ)
    → (length begun.fronts ≡ length old.fronts) × (length begun.bases ≡ length old.bases) → ((i : ℕ) → HasNode old i → table_at begun i ≡ (if not (is_dest old.dest dest) then emptied_table (table_at old i) else table_at old i))
    → SameNodes begun mid → ((i : ℕ) → HasNode begun i → table_at mid i ≡ rebased_table (get_or bases (i - 1) 0) (table_at begun i))
    → ((i : ℕ) → HasNode mid i → table_at new i ≡ (if too_many mid needs (length mid.fronts) then rebased_table (get_or bases (i - 1) 0) (emptied_table (table_at mid i)) else table_at mid i))
    → StepsTaken old new dest needs bases
steps-taken old begun mid new dest needs bases begun-long begun-table mid-same mid-table new-table =
    let long : length mid.fronts ≡ length old.fronts = mid-same.nodes ∙ begun-long.0 in
    record {
      mid = mid;
      nodes = long;
      based = λ i node. mid-table i (node.0, omega (arith, node.1, begun-long.0)) ∙ ap (rebased_table (get_or bases (i - 1) 0)) (begun-table i node);
      last = λ i node. new-table i (node.0, omega (arith, node.1, long));
    }

-- another base and another judgement, where both are the same
same-table : (over over' : Bool) (least base : ℕ) (s mid : NodeTable) → over' ≡ over → base ≡ least → s ≡ mid → (if over' then rebased_table base (emptied_table s) else s) ≡ (if over then rebased_table least (emptied_table mid) else mid)
same-table over over' least base s mid one two three = rw (one, two, three) refl

-- the law of the entries that would be kept
abbrev pub CellsAre : Net → ℕ → ℕ → ℕ → TablesView → TablesView → Type 0
CellsAre net origin dest last old mid = ((i : ℕ) → IsNode net i → table_of (lists_of mid) i ≡ prepared_table (not (is_dest old.dest dest)) false (least_to net dest i) (table_of (lists_of old) i))
    → cells_kept net origin dest last (based_state net dest (started_state net dest (state_of (lists_of old))))
    ≡ sum (listed (λ i. max (table_of (lists_of mid) i).front (need net origin dest last i) - (table_of (lists_of mid) i).base) net.nodes)

pub steps-prepared : ListLaws → TableIs → (net : Net) (origin dest last : ℕ) (old new : TablesView) (needs bases : List ℕ) → (length old.fronts ≡ net.nodes) × (length old.bases ≡ net.nodes) → needs ≡ listed (need net origin dest last) net.nodes
    → ((i : ℕ) → IsNode net i → get_or bases (i - 1) 0 ≡ least_to net dest i) → new.dest ≡ Some dest → (length new.fronts ≡ length old.fronts) × (length new.bases ≡ length old.bases) → (steps : StepsTaken old new dest needs bases)
    → CellsAre net origin dest last old steps.mid → IsPrepared net origin dest last (lists_of old) (lists_of new)
steps-prepared laws table net origin dest last old new needs bases long needs-are base to new-long steps counted =
    let fresh : Bool = not (is_dest old.dest dest) in
    let mid : TablesView = steps.mid in
    let has : (i : ℕ) → IsNode net i → HasNode old i = λ i node. (node.0, omega (arith, node.1, long.0)) in
    let middle : (i : ℕ) → IsNode net i → table_at mid i ≡ rebased_table (least_to net dest i) (if fresh then emptied_table (table_at old i) else table_at old i) =
    λ i node. steps.based i (has i node) ∙ ap (λ (b : ℕ). rebased_table b (if fresh then emptied_table (table_at old i) else table_at old i)) (base i node) in
    let held : (i : ℕ) → IsNode net i → table_of (lists_of mid) i ≡ prepared_table fresh false (least_to net dest i) (table_of (lists_of old) i) =
    λ i node. table mid i ∙ middle i node ∙ ap (λ (s : NodeTable). rebased_table (least_to net dest i) (if fresh then emptied_table s else s)) (sym (table old i)) in
    let cells : cells_of mid needs (length mid.fronts) ≡ cells_kept net origin dest last (based_state net dest (started_state net dest (state_of (lists_of old)))) =
    ap (λ (n : ℕ). cells_of mid needs n) (steps.nodes ∙ long.0)
    ∙ ap sum
    (laws.agree (row_needed mid needs) (λ i. max (table_of (lists_of mid) i).front (need net origin dest last i) - (table_of (lists_of mid) i).base) net.nodes
    (λ i low high.
    let at : get_or needs (i - 1) 0 ≡ need net origin dest last i = ap (λ (xs : List ℕ). get_or xs (i - 1) 0) needs-are ∙ laws.entry (need net origin dest last) net.nodes i 0 low high in
    ap (λ (x : ℕ). max (table_at mid i).front x - (table_at mid i).base) at))
    ∙ sym (counted held) in
    record {
      to = to;
      nodes = (new-long.0 ∙ long.0, new-long.1 ∙ long.1);
      tables = λ i node.
          table new i ∙ steps.last i (has i node)
          ∙ same-table (nat_lt KEPT_LIMIT (cells_kept net origin dest last (based_state net dest (started_state net dest (state_of (lists_of old)))))) (too_many mid needs (length mid.fronts)) (least_to net dest i) (get_or bases (i - 1) 0) (table_at mid i)
          (rebased_table (least_to net dest i) (if fresh then emptied_table (table_at old i) else table_at old i)) (ap (nat_lt KEPT_LIMIT) cells) (base i node) (middle i node)
          ∙ ap (prepared_table fresh (nat_lt KEPT_LIMIT (cells_kept net origin dest last (based_state net dest (started_state net dest (state_of (lists_of old)))))) (least_to net dest i)) (sym (table old i));
    }

-- ---- a node without an entry above its least time has that as its base
base-rebased : (least : ℕ) (s : NodeTable) → (rebased_table least s).front ≤ least → (rebased_table least s).base ≡ least
base-rebased least s low =
    ⊎_elim
    (λ (above : least < s.front). let off = lt-leb s.front least above in absurd (let high : s.front ≤ least = (rw off at low) in omega arith))
    (λ (below : s.front ≤ least). rw (le-leb s.front least below) refl)
    (cases_lt least s.front)

pub base-prepared : (fresh over : Bool) (least : ℕ) (s : NodeTable) → (prepared_table fresh over least s).front ≤ least → (prepared_table fresh over least s).base ≡ least
base-prepared true true least s low = base-rebased least (emptied_table (rebased_table least (emptied_table s))) low
base-prepared true false least s low = base-rebased least (emptied_table s) low
base-prepared false true least s low = base-rebased least (emptied_table (rebased_table least s)) low
base-prepared false false least s low = base-rebased least s low
