-- States from what holds at each node.
use Rattle.std.proofs.Common.{ℕ, ◌≡◌, ◌-◌, ◌<◌, ◌≤◌, max, Bool, true, false, not, nat_le, nat_lt, if◌then◌else◌, length, get_or, Option, None, Some, refl, sym, ◌∙◌, ap, arith, ⊎_elim}
use Rattle.std.proofs.lemmas.Bool.{cases_lt, le-leb, lt-leb, eqb-true, true≢false}
use Rattle.sota_network.specs.Network.{Net}
use Rattle.std.specs.List.{sum}
use Rattle.sota_network.specs.Numbers.{listed}
use Rattle.sota_network.specs.Region.{need}
use Rattle.sota_kept.specs.Ticks.{least_to}
use Rattle.sota_kept.specs.NodeTables.{NodeTable, prepared_table, emptied_table, rebased_table}
use Rattle.sota_network.specs.Laws.{ListLaws}
use Rattle.sota_kept.specs.States.{State, KEPT_LIMIT, front_of, base_of, is_dest, started_state, least_base, based_state, limited_state, prepared_state, cells_kept}

-- a state by its destination, fronts and bases
pub record StateIs (state : State) (nodes : ℕ) (to : Option ℕ) (fronts bases : ℕ → ℕ) : Type 0 where
  pub dest : state.dest ≡ to
  pub long : (length state.fronts ≡ nodes) × (length state.bases ≡ nodes)
  pub front : (i : ℕ) → 1 ≤ i → i ≤ nodes → front_of state i ≡ fronts i
  pub base : (i : ℕ) → 1 ≤ i → i ≤ nodes → base_of state i ≡ bases i

pub state-listed : ListLaws → (state : State) (n : ℕ) (dest : Option ℕ) (f g : ℕ → ℕ) → StateIs state n dest f g → state ≡ record { dest = dest; fronts = listed f n; bases = listed g n }
state-listed laws state n dest f g is =
    let one : state.fronts ≡ listed f n = laws.items state.fronts f n is.long.0 is.front in
    let two : state.bases ≡ listed g n = laws.items state.bases g n is.long.1 is.base in
    rw (← is.dest, ← one, ← two) refl

-- ---- the steps of an ask
rebased_table-front : (c : ℕ) (s : NodeTable) → (rebased_table c s).front ≡ s.front
rebased_table-front c s = ⊎_elim (λ (above : c < s.front). rw (lt-leb s.front c above) refl) (λ (below : s.front ≤ c). rw (le-leb s.front c below) refl) (cases_lt c s.front)

rebased_table-base : (c f b : ℕ) (s : NodeTable) → s.front ≡ f → s.base ≡ b → (if nat_le f c then c else b) ≡ (rebased_table c s).base
rebased_table-base c f b s at at' =
    ⊎_elim
    (λ (above : c < s.front). rw (← at, ← at', lt-leb s.front c above) refl)
    (λ (below : s.front ≤ c). rw (← at, ← at', le-leb s.front c below) refl)
    (cases_lt c s.front)

rebased_table-empty : (c : ℕ) (s : NodeTable) → (rebased_table c (emptied_table s)).base ≡ c
rebased_table-empty c s = rw (le-leb 0 c (omega arith)) refl

same-dest : (d : Option ℕ) (dest : ℕ) → is_dest d dest ≡ true → d ≡ Some dest
same-dest None dest h = absurd (true≢false (sym h))
same-dest (Some d) dest h = ap (λ (x : ℕ). Some x) (eqb-true d dest h)

module _ (laws : ListLaws) (net : Net) (origin dest last : ℕ) (state : State) (long : (length state.fronts ≡ net.nodes) × (length state.bases ≡ net.nodes)) (s : ℕ → NodeTable) (front : (i : ℕ) → (s i).front ≡ front_of state i) (base : (i : ℕ) → (s i).base ≡ base_of state i) where
  -- the state of these tables after a step is that of the tables after it
  abbrev pub StateOf : State → (ℕ → NodeTable) → Type 0
  StateOf after tables = StateIs after net.nodes (Some dest) (λ i. (tables i).front) (λ i. (tables i).base)

  based-fresh : is_dest state.dest dest ≡ false → StateOf (based_state net dest (started_state net dest state)) (λ i. rebased_table (least_to net dest i) (emptied_table (s i)))
  based-fresh other = rw other (record {
    dest = refl;
    long = (laws.count (λ i. 0) net.nodes, laws.count (least_base net dest (record { dest = Some dest; fronts = listed (λ i. 0) net.nodes; bases = state.bases })) net.nodes);
    front = λ i low high. laws.entry (λ i. 0) net.nodes i 0 low high ∙ sym (rebased_table-front (least_to net dest i) (emptied_table (s i)));
    base = λ i low high.
        laws.entry (least_base net dest (record { dest = Some dest; fronts = listed (λ i. 0) net.nodes; bases = state.bases })) net.nodes i 0 low high
        ∙ rebased_table-base (least_to net dest i) (get_or (listed (λ i. 0) net.nodes) (i - 1) 0) (base_of state i) (emptied_table (s i)) (sym (laws.entry (λ i. 0) net.nodes i 0 low high)) (base i);
  })

  based-same : is_dest state.dest dest ≡ true → StateOf (based_state net dest (started_state net dest state)) (λ i. rebased_table (least_to net dest i) (s i))
  based-same same = rw same (record {
    dest = same-dest state.dest dest same;
    long = (long.0, laws.count (least_base net dest state) net.nodes);
    front = λ i low high. sym (rebased_table-front (least_to net dest i) (s i) ∙ front i);
    base = λ i low high. laws.entry (least_base net dest state) net.nodes i 0 low high ∙ rebased_table-base (least_to net dest i) (front_of state i) (base_of state i) (s i) (front i) (base i);
  })

  abbrev pub too_many : Bool
  too_many = nat_lt KEPT_LIMIT (cells_kept net origin dest last (based_state net dest (started_state net dest state)))

  limited_state-none : (t : State) (tables : ℕ → NodeTable) → nat_lt KEPT_LIMIT (cells_kept net origin dest last t) ≡ false → StateOf t tables → StateOf (limited_state net origin dest last t) tables
  limited_state-none t tables fits is = rw fits is

  limited_state-all : (t : State) (tables : ℕ → NodeTable) → nat_lt KEPT_LIMIT (cells_kept net origin dest last t) ≡ true → StateOf t tables → StateOf (limited_state net origin dest last t) (λ i. rebased_table (least_to net dest i) (emptied_table (tables i)))
  limited_state-all t tables many is = rw many (record {
    dest = is.dest;
    long = (laws.count (λ i. 0) net.nodes, laws.count (least_to net dest) net.nodes);
    front = λ i low high. laws.entry (λ i. 0) net.nodes i 0 low high ∙ sym (rebased_table-front (least_to net dest i) (emptied_table (tables i)));
    base = λ i low high. laws.entry (least_to net dest) net.nodes i 0 low high ∙ sym (rebased_table-empty (least_to net dest i) (tables i));
  })

  pub prepared-state : (fresh over : Bool) → is_dest state.dest dest ≡ not fresh → too_many ≡ over → StateOf (prepared_state net origin dest last state) (λ i. prepared_table fresh over (least_to net dest i) (s i))
  prepared-state true true other many = limited_state-all (based_state net dest (started_state net dest state)) (λ i. rebased_table (least_to net dest i) (emptied_table (s i))) many (based-fresh other)
  prepared-state true false other fits = limited_state-none (based_state net dest (started_state net dest state)) (λ i. rebased_table (least_to net dest i) (emptied_table (s i))) fits (based-fresh other)
  prepared-state false true same many = limited_state-all (based_state net dest (started_state net dest state)) (λ i. rebased_table (least_to net dest i) (s i)) many (based-same same)
  prepared-state false false same fits = limited_state-none (based_state net dest (started_state net dest state)) (λ i. rebased_table (least_to net dest i) (s i)) fits (based-same same)

-- what would be kept, by the tables after the second step
pub cells-by : ListLaws → (net : Net) (origin dest last : ℕ) (t : State) (tables : ℕ → NodeTable) → ((i : ℕ) → 1 ≤ i → i ≤ net.nodes → front_of t i ≡ (tables i).front) → ((i : ℕ) → 1 ≤ i → i ≤ net.nodes → base_of t i ≡ (tables i).base)
    → cells_kept net origin dest last t ≡ sum (listed (λ i. max (tables i).front (need net origin dest last i) - (tables i).base) net.nodes)
cells-by laws net origin dest last t tables front base =
    ap sum
    (laws.agree (λ i. max (front_of t i) (need net origin dest last i) - base_of t i) (λ i. max (tables i).front (need net origin dest last i) - (tables i).base) net.nodes
    (λ i low high. rw (front i low high, base i low high) refl))

pub cells-based : ListLaws → (net : Net) (origin dest last : ℕ) (state : State) → (length state.fronts ≡ net.nodes) × (length state.bases ≡ net.nodes) → (s : ℕ → NodeTable) → ((i : ℕ) → (s i).front ≡ front_of state i) → ((i : ℕ) → (s i).base ≡ base_of state i)
    → (fresh : Bool) → is_dest state.dest dest ≡ not fresh → (mid : ℕ → NodeTable) → ((i : ℕ) → 1 ≤ i → i ≤ net.nodes → mid i ≡ rebased_table (least_to net dest i) (if fresh then emptied_table (s i) else s i))
    → cells_kept net origin dest last (based_state net dest (started_state net dest state)) ≡ sum (listed (λ i. max (mid i).front (need net origin dest last i) - (mid i).base) net.nodes)
cells-based laws net origin dest last state long s front base true other mid at =
    let is = based-fresh laws net origin dest last state long s front base other in
    cells-by laws net origin dest last (based_state net dest (started_state net dest state)) mid
    (λ i low high. is.front i low high ∙ ap (λ (x : NodeTable). x.front) (sym (at i low high)))
    (λ i low high. is.base i low high ∙ ap (λ (x : NodeTable). x.base) (sym (at i low high)))
cells-based laws net origin dest last state long s front base false same mid at =
    let is = based-same laws net origin dest last state long s front base same in
    cells-by laws net origin dest last (based_state net dest (started_state net dest state)) mid
    (λ i low high. is.front i low high ∙ ap (λ (x : NodeTable). x.front) (sym (at i low high)))
    (λ i low high. is.base i low high ∙ ap (λ (x : NodeTable). x.base) (sym (at i low high)))
