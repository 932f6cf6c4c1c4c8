-- What the needs and counts are, by the law of the region.
use Rattle.std.proofs.Common.{ℕ, suc, ◌≡◌, ◌≢◌, ◌+◌, ◌-◌, ◌<◌, ◌≤◌, map, List, [], ◌∷◌, length, get_or, Option, None, Some, refl, sym, ◌∙◌, ap, arith, ⊎_elim}
use Rattle.std.specs.List.{All, filter, sum, sum_by}
use Rattle.std.proofs.lemmas.Bool.{cases_lt, cases_eq, eq-eqb, ne_eqb, le-leb, lt-leb, lt-ltb, le-ltb}
use Rattle.std.proofs.lemmas.List.Sums.{sum_by-cons, length-filter}
use Rattle.std.proofs.lemmas.List.Elements.{All-head, All-tail, All-weaker}
use Rattle.sota_network.specs.Network.{Net, IsNet, IsNode, IsArc}
use Rattle.sota_network.specs.Numbers.{listed}
use Rattle.sota_network.specs.Walks.{IsLeastTime}
use Rattle.sota_network.specs.Region.{budgets, pairs_at, need, table_cells, broad_cells, broad_at, pairs_between, need_between, HasLeastTimes}
use Rattle.sota_network.specs.Grid.{greatest}
use Rattle.sota_network.specs.Reach.{in_region}
use Rattle.sota_network.specs.declared.network.Arc.{Arc}
use Rattle.sota_bounds.specs.Search.{time_at, Joins, IsBeyond, IsFoundBetween}
use Rattle.sota_bounds.specs.Cells.{listed_need, need_by_times, pairs_by_need, pairs_by_lists, table_cells_by_lists, broad_cells_by_lists}
use Rattle.sota_bounds.specs.Faults.{TABLE_LIMIT, BROAD_LIMIT, cells_fault}
use Rattle.sota_bounds.specs.declared.search.Direction.TheVariants.{Along}
use Rattle.sota_bounds.specs.declared.fault.RegionFault.TheVariants.{TableCells, BroadCells}

-- over plain numbers
pairs-needed : (last : ℕ) (to from : Option ℕ) → pairs_by_need to (need_between last to from) ≡ pairs_between last to from
pairs-needed last (Some to) (Some from) =
    ⊎_elim
    (λ (out : last < to + from). rw (lt-leb (to + from) last out) (omega arith))
    (λ (fits : to + from ≤ last). rw (le-leb (to + from) last fits) (omega arith))
    (cases_lt last (to + from))
pairs-needed last (Some to) None = omega arith
pairs-needed last None (Some from) = refl
pairs-needed last None None = refl

need-small : (last : ℕ) (to from : Option ℕ) → need_between last to from ≤ last + 1
need-small last (Some to) (Some from) =
    ⊎_elim
    (λ (out : last < to + from). rw (lt-leb (to + from) last out) (omega arith))
    (λ (fits : to + from ≤ last). rw (le-leb (to + from) last fits) (omega arith))
    (cases_lt last (to + from))
need-small last (Some to) None = omega arith
need-small last None (Some from) = omega arith
need-small last None None = omega arith

none-needed : (to : Option ℕ) → pairs_by_need to 0 ≡ 0
none-needed None = refl
none-needed (Some to) = omega arith

sum_by-agree : {X : Type 0} (f g : X → ℕ) (xs : List X) → All (λ x. f x ≡ g x) xs → sum_by f xs ≡ sum_by g xs
sum_by-agree f g [] same = refl
sum_by-agree f g (x ∷ xs) same =
    let here : f x ≡ g x = All-head (λ y. f y ≡ g y) x xs same in
    let more : sum_by f xs ≡ sum_by g xs = sum_by-agree f g xs (All-tail (λ y. f y ≡ g y) x xs same) in
    sum_by-cons f x xs ∙ (rw (here, more) (sym (sum_by-cons g x xs)))

-- of the need of a node
pub need-within : (dest last : ℕ) (least from : List (Option ℕ)) (i : ℕ) → need_by_times dest last least from i ≤ last + 1
need-within dest last least from i =
    ⊎_elim
    (λ (same : i ≡ dest). rw (eq-eqb i dest same) (omega arith))
    (λ (apart : i ≡ dest → ⊥). rw (ne_eqb i dest apart) (need-small last (time_at least i) (time_at from i)))
    (cases_eq i dest)

pub need-few : (dest last : ℕ) (least from : List (Option ℕ)) → last ≤ 65535 → (i : ℕ) → need_by_times dest last least from i ≤ 65536
need-few dest last least from few i = omega (arith, few, need-within dest last least from i)

-- where none of the budgets counts, the need is 0
none-long : (xs : List ℕ) → length xs ≡ 0 → xs ≡ []
none-long [] none = refl
none-long (x ∷ xs) none = absurd (let one : ⊥ = omega (arith, none) in one)

no-pairs-no-need : (net : Net) (origin dest last i : ℕ) → pairs_at net origin dest last i ≡ 0 → need net origin dest last i ≡ 0
unfolding pairs_at need
no-pairs-no-need net origin dest last i none =
    ap (λ (ts : List ℕ). greatest (map suc ts))
    (none-long (filter (λ t. in_region net origin dest last i t) (budgets last)) (length-filter (λ t. in_region net origin dest last i t) (budgets last) ∙ none))

-- least times of an ask as its searches found them, and the laws of its region and of lists by number
pub record IsAsked (net : Net) (origin dest last : ℕ) (least from : List (Option ℕ)) : Type 0 where
  pub valid : IsNet net
  pub nodes : length least ≡ net.nodes
  pub onward : (i : ℕ) → IsNode net i → IsLeastTime net dest i dest (time_at least i)
  pub back : (i : ℕ) → IsNode net i → IsFoundBetween (Some last) net dest Along origin i (time_at from i)
  pub pairs : (i : ℕ) (to since : Option ℕ) → i ≢ dest → IsLeastTime net dest i dest to → IsLeastTime net dest origin i since → pairs_at net origin dest last i ≡ pairs_between last to since
  pub needs : (i : ℕ) (to since : Option ℕ) → i ≢ dest → IsLeastTime net dest i dest to → IsLeastTime net dest origin i since → need net origin dest last i ≡ need_between last to since
  pub counted : (i : ℕ) → 1 ≤ pairs_at net origin dest last i → HasLeastTimes net origin dest last i
  pub entry : (f : ℕ → ℕ) (n i other : ℕ) → 1 ≤ i → i ≤ n → get_or (listed f n) (i - 1) other ≡ f i
  pub agree : (f g : ℕ → ℕ) (n : ℕ) → ((i : ℕ) → 1 ≤ i → i ≤ n → f i ≡ g i) → listed f n ≡ listed g n
  pub dest_pairs : pairs_at net origin dest last dest ≡ 0
  pub dest_need : need net origin dest last dest ≡ 0

none-between : (last : ℕ) (to : Option ℕ) → pairs_between last to None ≡ 0
none-between last None = refl
none-between last (Some to) = refl

none-needed-between : (last : ℕ) (to : Option ℕ) → need_between last to None ≡ 0
none-needed-between last None = refl
none-needed-between last (Some to) = refl

module _ (net : Net) (origin dest last : ℕ) (least from : List (Option ℕ)) (is : IsAsked net origin dest last least from) (i : ℕ) (apart : i ≢ dest) (node : IsNode net i) where
  -- a node that is not within the last of the origin has no pair
  none-there : ((n : ℕ) → Joins net dest Along origin i n → IsBeyond (Some last) n) → pairs_at net origin dest last i ≡ 0
  none-there beyond =
      ⊎_elim
      (λ (some : 0 < pairs_at net origin dest last i).
      let has = is.counted i (omega (arith, some)) in
      let late : last < has.from = beyond has.from has.came.walk in
      absurd (let none : ⊥ = omega (arith, has.within, late) in none))
      (λ (none : pairs_at net origin dest last i ≤ 0). omega (arith, none))
      (cases_lt 0 (pairs_at net origin dest last i))

  pairs-by : (since : Option ℕ) → IsFoundBetween (Some last) net dest Along origin i since → pairs_at net origin dest last i ≡ pairs_between last (time_at least i) since
  pairs-by (Some n) found = is.pairs i (time_at least i) (Some n) apart (is.onward i node) found
  pairs-by None beyond = none-there beyond ∙ sym (none-between last (time_at least i))

  needs-by : (since : Option ℕ) → IsFoundBetween (Some last) net dest Along origin i since → need net origin dest last i ≡ need_between last (time_at least i) since
  needs-by (Some n) found = is.needs i (time_at least i) (Some n) apart (is.onward i node) found
  needs-by None beyond = no-pairs-no-need net origin dest last i (none-there beyond) ∙ sym (none-needed-between last (time_at least i))

  pub asked-pairs : pairs_at net origin dest last i ≡ pairs_between last (time_at least i) (time_at from i)
  asked-pairs = pairs-by (time_at from i) (is.back i node)

  pub asked-need : need net origin dest last i ≡ need_between last (time_at least i) (time_at from i)
  asked-need = needs-by (time_at from i) (is.back i node)

module _ (net : Net) (origin dest last : ℕ) (least from : List (Option ℕ)) (is : IsAsked net origin dest last least from) where
  need-is : (i : ℕ) → IsNode net i → need_by_times dest last least from i ≡ need net origin dest last i
  need-is i node =
      ⊎_elim
      (λ (same : i ≡ dest). rw (eq-eqb i dest same) (sym (ap (need net origin dest last) same ∙ is.dest_need)))
      (λ (apart : i ≡ dest → ⊥). rw (ne_eqb i dest apart) (sym (asked-need net origin dest last least from is i apart node)))
      (cases_eq i dest)

  pub needs-are : listed (need_by_times dest last least from) (length least) ≡ listed (need net origin dest last) net.nodes
  needs-are = ap (listed (need_by_times dest last least from)) is.nodes ∙ is.agree (need_by_times dest last least from) (need net origin dest last) net.nodes (λ i low high. need-is i (low, high))

  module _ (kept : List ℕ) (kept_is : kept ≡ listed (need_by_times dest last least from) (length least)) where
    kept-at : (i : ℕ) → IsNode net i → listed_need kept i ≡ need_by_times dest last least from i
    kept-at i node =
        ap (λ (ns : List ℕ). listed_need ns i) kept_is ∙ is.entry (need_by_times dest last least from) (length least) i 0 node.0 (omega (arith, node.1, is.nodes))

    pub pairs-is : (i : ℕ) → IsNode net i → pairs_by_lists least kept i ≡ pairs_at net origin dest last i
    pairs-is i node =
        ap (pairs_by_need (time_at least i)) (kept-at i node)
        ∙ ⊎_elim
        (λ (same : i ≡ dest). rw (eq-eqb i dest same) (none-needed (time_at least i) ∙ sym (ap (pairs_at net origin dest last) same ∙ is.dest_pairs)))
        (λ (apart : i ≡ dest → ⊥).
        rw (ne_eqb i dest apart) (pairs-needed last (time_at least i) (time_at from i) ∙ sym (asked-pairs net origin dest last least from is i apart node)))
        (cases_eq i dest)

    pub table-is : table_cells_by_lists least kept (length least) ≡ table_cells net origin dest last
    table-is =
        ap (λ (n : ℕ). table_cells_by_lists least kept n) is.nodes
        ∙ ap sum (is.agree (pairs_by_lists least kept) (pairs_at net origin dest last) net.nodes (λ i low high. pairs-is i (low, high)))

    pub broad-is : broad_cells_by_lists last least kept net.arcs ≡ broad_cells net origin dest last
    broad-is =
        sum_by-agree (λ (arc : Arc). broad_at last (pairs_by_lists least kept arc.tail) arc) (λ (arc : Arc). broad_at last (pairs_at net origin dest last arc.tail) arc) net.arcs
        (All-weaker (IsArc net) (λ (arc : Arc). broad_at last (pairs_by_lists least kept arc.tail) arc ≡ broad_at last (pairs_at net origin dest last arc.tail) arc)
        (λ arc valid. ap (λ (n : ℕ). broad_at last n arc) (pairs-is arc.tail valid.tail)) net.arcs is.valid.arcs)

-- which fault it is
pub table-fault : (table broad cells : ℕ) → cells ≡ table → TABLE_LIMIT < cells → cells_fault table broad ≡ Some (TableCells cells)
table-fault table broad cells is many = rw (sym is, lt-ltb TABLE_LIMIT cells many) refl

pub broad-fault : (table broad few cells : ℕ) → few ≡ table → cells ≡ broad → few ≤ TABLE_LIMIT → BROAD_LIMIT < cells → cells_fault table broad ≡ Some (BroadCells cells)
broad-fault table broad few cells table_is broad_is small many = rw (sym table_is, sym broad_is, le-ltb TABLE_LIMIT few small, lt-ltb BROAD_LIMIT cells many) refl

pub no-fault : (table broad few cells : ℕ) → few ≡ table → cells ≡ broad → few ≤ TABLE_LIMIT → cells ≤ BROAD_LIMIT → cells_fault table broad ≡ None
no-fault table broad few cells table_is broad_is small low = rw (sym table_is, sym broad_is, le-ltb TABLE_LIMIT few small, le-ltb BROAD_LIMIT cells low) refl
