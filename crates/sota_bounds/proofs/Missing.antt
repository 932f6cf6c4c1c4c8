-- What an ask misses, of tables without a destination and right after itself.
use Rattle.std.proofs.Common.{ℕ, zero, suc, ◌≡◌, ◌+◌, ◌-◌, ◌<◌, ◌≤◌, max, nat_le, nat_lt, Bool, true, false, List, [], ◌∷◌, map, None, Some, refl, sym, ◌∙◌, ap, subst, arith, ⊎_elim, if◌then◌else◌}
use Rattle.std.specs.List.{sum, filter}
use Rattle.std.proofs.lemmas.Bool.{cases_Bool, cases_lt, le-leb, lt-leb, le-ltb, lt-ltb, eq-eqb}
use Rattle.std.proofs.lemmas.List.{nil_from_length}
use Rattle.std.proofs.lemmas.List.Sums.{length-filter, sum_by-append}
use Rattle.sota_units.specs.Limits.{BUDGET_LIMIT}
use Rattle.sota_network.specs.Network.{Net, IsNode}
use Rattle.sota_network.specs.Numbers.{listed}
use Rattle.sota_network.specs.Grid.{greatest}
use Rattle.sota_network.specs.Walks.{IsLeastTime}
use Rattle.sota_network.specs.Reach.{in_region}
use Rattle.sota_network.specs.Region.{need, pairs_at, table_cells, budgets, pairs_between, need_between, HasLeastTimes}
use Rattle.sota_network.specs.Laws.{ListLaws}
use Rattle.sota_kept.specs.Ticks.{END_LIMIT, least_to, up_to}
use Rattle.sota_kept.specs.States.{State, KEPT_LIMIT, front_of, base_of, end_at, is_dest, started_state, based_state, least_base, cells_kept, limited_state, prepared_state, grown_state, missing_in, missing}

-- ---- the pairs of a node are those from its least time up to its need
none-needed : (net : Net) (origin dest last i : ℕ) → pairs_at net origin dest last i ≡ 0 → need net origin dest last i ≡ 0
unfolding pairs_at need
none-needed net origin dest last i none =
    let inside : ℕ → Bool = λ t. in_region net origin dest last i t in
    ap (λ (ts : List ℕ). greatest (map suc ts))
    (nil_from_length (filter inside (budgets last)) (length-filter inside (budgets last) ∙ none))

counted : (last to from needed least pairs : ℕ) → to + from ≤ last → last ≤ BUDGET_LIMIT
    → needed ≡ need_between last (Some to) (Some from) → least ≡ up_to END_LIMIT (Some to)
    → pairs ≡ pairs_between last (Some to) (Some from) → needed - least ≡ pairs
counted last to from needed least pairs within short need_is least_is pairs_is =
    let is : needed ≡ last + 1 - from = need_is ∙ (rw (le-leb (to + from) last within) refl) in
    omega (arith, is, least_is, pairs_is, within, short)

-- the laws of the region of an ask
pub record RegionLaws (net : Net) (origin dest last : ℕ) : Type 0 where
  pub short : last ≤ BUDGET_LIMIT
  pub inside : (i : ℕ) → 1 ≤ pairs_at net origin dest last i → HasLeastTimes net origin dest last i
  pub pairs : (i : ℕ) (to from : ℕ) → HasLeastTimes net origin dest last i
      → IsLeastTime net dest i dest (Some to) → IsLeastTime net dest origin i (Some from)
      → pairs_at net origin dest last i ≡ pairs_between last (Some to) (Some from)
  pub needs : (i : ℕ) (to from : ℕ) → HasLeastTimes net origin dest last i
      → IsLeastTime net dest i dest (Some to) → IsLeastTime net dest origin i (Some from)
      → need net origin dest last i ≡ need_between last (Some to) (Some from)
  pub times : (i to : ℕ) → IsLeastTime net dest i dest (Some to)
      → least_to net dest i ≡ up_to END_LIMIT (Some to)

module _ (net : Net) (origin dest last : ℕ) (laws : RegionLaws net origin dest last) where
  left-over : (i : ℕ) → need net origin dest last i - least_to net dest i ≡ pairs_at net origin dest last i
  left-over i =
      ⊎_elim
      (λ (some : 0 < pairs_at net origin dest last i).
      let has = laws.inside i (let positive : 1 ≤ pairs_at net origin dest last i = omega (arith, some) in positive) in
      counted last has.to has.from _ _ _ has.within laws.short
      (laws.needs i has.to has.from has has.onward has.came) (laws.times i has.to has.onward)
      (laws.pairs i has.to has.from has has.onward has.came))
      (λ (none : pairs_at net origin dest last i ≤ 0).
      let zero_pairs : pairs_at net origin dest last i ≡ 0 = omega (arith, none) in
      omega (arith, zero_pairs, none-needed net origin dest last i zero_pairs))
      (cases_lt 0 (pairs_at net origin dest last i))

-- ---- the steps of an ask
module _ (lists : ListLaws) (net : Net) (origin dest last : ℕ) where
  abbrev wanted : ℕ → ℕ
  wanted = need net origin dest last

  -- no entry, from the least time on
  pub record IsFresh (state : State) (i : ℕ) : Type 0 where
    pub front : front_of state i ≡ 0
    pub base : base_of state i ≡ least_to net dest i

  -- all began afresh
  abbrev emptied : State → State
  emptied state = record {
    dest = state.dest;
    fronts = listed (λ i. 0) net.nodes;
    bases = listed (least_to net dest) net.nodes;
  }

  emptied-fresh : (state : State) (i : ℕ) → IsNode net i → IsFresh (emptied state) i
  emptied-fresh state i node = record {
    front = lists.entry (λ i. 0) net.nodes i 0 node.0 node.1;
    base = lists.entry (least_to net dest) net.nodes i 0 node.0 node.1;
  }

  based-base : (state : State) (i : ℕ) → IsNode net i → base_of (based_state net dest state) i ≡ least_base net dest state i
  based-base state i node = lists.entry (least_base net dest state) net.nodes i 0 node.0 node.1

  -- ---- of tables without a destination
  abbrev begun : State → State
  begun old = record { dest = Some dest; fronts = listed (λ i. 0) net.nodes; bases = old.bases }

  begun-is : (old : State) → old.dest ≡ None → started_state net dest old ≡ begun old
  begun-is old at = rw at refl

  based-fresh : (old : State) (i : ℕ) → IsNode net i → IsFresh (based_state net dest (begun old)) i
  based-fresh old i node =
      let front : front_of (begun old) i ≡ 0 = lists.entry (λ i. 0) net.nodes i 0 node.0 node.1 in
      record {
        front = front;
        base =
            based-base (begun old) i node
            ∙ ap (λ (n : ℕ). if nat_le n (least_to net dest i) then least_to net dest i else base_of (begun old) i) front
            ∙ (rw (le-leb 0 (least_to net dest i) (omega arith)) refl);
      }

  limited-fresh : (mid : State) (i : ℕ) → IsNode net i → IsFresh mid i → IsFresh (limited_state net origin dest last mid) i
  limited-fresh mid i node fresh =
      ⊎_elim
      (λ (over : nat_lt KEPT_LIMIT (cells_kept net origin dest last mid) ≡ true). rw over (emptied-fresh mid i node))
      (λ (fits : nat_lt KEPT_LIMIT (cells_kept net origin dest last mid) ≡ false). rw fits fresh)
      (cases_Bool (nat_lt KEPT_LIMIT (cells_kept net origin dest last mid)))

  pub prepared-fresh : (old : State) → old.dest ≡ None → (i : ℕ) → IsNode net i → IsFresh (prepared_state net origin dest last old) i
  prepared-fresh old at i node =
      subst (λ (mid : State). IsFresh (limited_state net origin dest last (based_state net dest mid)) i) (sym (begun-is old at))
      (limited-fresh (based_state net dest (begun old)) i node (based-fresh old i node))

  -- the entries that are missing are the pairs of the region
  module _ (laws : RegionLaws net origin dest last) where
    pub missing-cells : (old : State) → old.dest ≡ None → missing net origin dest last old ≡ table_cells net origin dest last
    missing-cells old at =
        let mid = prepared_state net origin dest last old in
        ap sum (lists.agree (λ i. wanted i - end_at mid.fronts mid.bases i) (λ i. pairs_at net origin dest last i) net.nodes
        (λ i low high.
        let fresh = prepared-fresh old at i (low, high) in
        let end : end_at mid.fronts mid.bases i ≡ least_to net dest i = omega (arith, fresh.front, fresh.base) in
        ap (λ (n : ℕ). wanted i - n) end ∙ left-over net origin dest last laws i))

    -- ---- right after the ask
    -- a state that the ask was prepared in: it is for the destination, a node whose front is at
    -- most its least time begins there, and it is not too large
    pub record IsBegun (state : State) : Type 0 where
      pub to : is_dest state.dest dest ≡ true
      pub based : (i : ℕ) → IsNode net i → front_of state i ≤ least_to net dest i → base_of state i ≡ least_to net dest i
      pub few : cells_kept net origin dest last state ≤ KEPT_LIMIT

    started-to : (old : State) → is_dest (started_state net dest old).dest dest ≡ true
    started-to old =
        ⊎_elim
        (λ (same : is_dest old.dest dest ≡ true). rw same same)
        (λ (other : is_dest old.dest dest ≡ false). rw other (eq-eqb dest dest refl))
        (cases_Bool (is_dest old.dest dest))

    based-least : (state : State) (i : ℕ) → IsNode net i → front_of state i ≤ least_to net dest i → base_of (based_state net dest state) i ≡ least_to net dest i
    based-least state i node below = based-base state i node ∙ (rw (le-leb (front_of state i) (least_to net dest i) below) refl)

    emptied-cells : (state : State) → cells_kept net origin dest last (emptied state) ≡ table_cells net origin dest last
    emptied-cells state =
        ap sum (lists.agree (λ i. max (front_of (emptied state) i) (wanted i) - base_of (emptied state) i) (λ i. pairs_at net origin dest last i) net.nodes
        (λ i low high.
        let fresh = emptied-fresh state i (low, high) in
        let same : max (front_of (emptied state) i) (wanted i) - base_of (emptied state) i ≡ wanted i - least_to net dest i = omega (arith, fresh.front, fresh.base) in
        same ∙ left-over net origin dest last laws i))

    module _ (small : table_cells net origin dest last ≤ KEPT_LIMIT) where
      limited-begun : (mid : State) → is_dest mid.dest dest ≡ true → ((i : ℕ) → IsNode net i → front_of mid i ≤ least_to net dest i → base_of mid i ≡ least_to net dest i) → IsBegun (limited_state net origin dest last mid)
      limited-begun mid to based =
          ⊎_elim
          (λ (over : KEPT_LIMIT < cells_kept net origin dest last mid).
          rw (lt-ltb KEPT_LIMIT (cells_kept net origin dest last mid) over) (record {
            to = to;
            based = λ i node below. (emptied-fresh mid i node).base;
            few = (let few : cells_kept net origin dest last (emptied mid) ≤ KEPT_LIMIT = omega (arith, emptied-cells mid, small) in few);
          }))
          (λ (fits : cells_kept net origin dest last mid ≤ KEPT_LIMIT).
          rw (le-ltb KEPT_LIMIT (cells_kept net origin dest last mid) fits) (record { to = to; based = based; few = fits }))
          (cases_lt KEPT_LIMIT (cells_kept net origin dest last mid))

      pub prepared-begun : (old : State) → IsBegun (prepared_state net origin dest last old)
      prepared-begun old =
          limited-begun (based_state net dest (started_state net dest old)) (started-to old)
          (λ i node below. based-least (started_state net dest old) i node below)

      -- the needs are met, and the ask is prepared in what was left: nothing changes
      module _ (state : State) (is : IsBegun state) where
        abbrev grown : State
        grown = grown_state net origin dest last state

        grown-front : (i : ℕ) → IsNode net i → front_of grown i ≡ max (front_of state i) (wanted i)
        grown-front i node = lists.entry (λ i. max (front_of state i) (wanted i)) net.nodes i 0 node.0 node.1

        again-base : (i : ℕ) → IsNode net i → base_of (based_state net dest grown) i ≡ base_of state i
        again-base i node =
            based-base grown i node
            ∙ ⊎_elim
            (λ (above : least_to net dest i < front_of grown i). rw (lt-leb (front_of grown i) (least_to net dest i) above) refl)
            (λ (below : front_of grown i ≤ least_to net dest i).
            let less : front_of state i ≤ least_to net dest i = omega (arith, below, grown-front i node) in
            rw (le-leb (front_of grown i) (least_to net dest i) below) (sym (is.based i node less)))
            (cases_lt (least_to net dest i) (front_of grown i))

        again-cells : cells_kept net origin dest last (based_state net dest grown) ≡ cells_kept net origin dest last state
        again-cells =
            ap sum (lists.agree (λ i. max (front_of grown i) (wanted i) - base_of (based_state net dest grown) i) (λ i. max (front_of state i) (wanted i) - base_of state i) net.nodes
            (λ i low high. omega (arith, grown-front i (low, high), again-base i (low, high))))

        again-is : prepared_state net origin dest last grown ≡ based_state net dest grown
        again-is =
            let few : cells_kept net origin dest last (based_state net dest grown) ≤ KEPT_LIMIT = omega (arith, again-cells, is.few) in
            let started : started_state net dest grown ≡ grown = rw is.to refl in
            ap (λ (mid : State). limited_state net origin dest last (based_state net dest mid)) started
            ∙ (rw (le-ltb KEPT_LIMIT (cells_kept net origin dest last (based_state net dest grown)) few) refl)

        sum-zeros : (n : ℕ) → sum (listed (λ i. 0) n) ≡ 0
        sum-zeros zero = refl
        sum-zeros (suc n) = omega (arith, sum_by-append (λ (n : ℕ). n) (listed (λ i. 0) n) (0 ∷ []), sum-zeros n)

        pub missing-none : missing net origin dest last grown ≡ 0
        missing-none =
            let mid = based_state net dest grown in
            ap (missing_in net origin dest last) again-is
            ∙ ap sum (lists.agree (λ i. wanted i - end_at mid.fronts mid.bases i) (λ i. 0) net.nodes
            (λ i low high. omega (arith, grown-front i (low, high))))
            ∙ sum-zeros net.nodes
