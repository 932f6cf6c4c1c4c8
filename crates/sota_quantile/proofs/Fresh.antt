-- Tables that had no destination, once they were filled for an ask: the front of a node is its need,
-- and its base its least time.
use Rattle.std.proofs.Common.{ℕ, ◌≡◌, ◌≢◌, ◌<◌, ◌≤◌, max, false, Option, None, Some, refl, sym, ◌∙◌, ap, subst, arith, ⊎_elim, if◌then◌else◌, ◌==◌}
use Rattle.std.proofs.lemmas.Bool.{cases_eq, eq-eqb, ne_eqb, true≢false}
use Rattle.sota_units.specs.Rounding.{ONE}
use Rattle.sota_network.specs.Network.{Net, IsNode}
use Rattle.sota_network.specs.Grid.{lo, hi}
use Rattle.sota_network.specs.Region.{need}
use Rattle.sota_network.specs.Laws.{ListLaws}
use Rattle.sota_kept.specs.Ticks.{least_to}
use Rattle.sota_kept.specs.NodeTables.{NodeTable, IsSettledAt, IsReadyAt, AreSettled, known_end, lower_of, upper_of}
use Rattle.sota_kept.specs.States.{State, front_of, grown_state}
use Rattle.sota_kept.specs.TableLists.{IsSettled, EntriesSettled, table_of}
use Rattle.sota_tables.specs.Views.{TablesView, IsKnownAt, is_at_dest, lists_of, table_at}
use Rattle.sota_quantile.specs.Bounds.{HasBounds}

-- the needs are met
pub grown-front : ListLaws → (net : Net) (origin dest last : ℕ) (state : State) (i : ℕ) → IsNode net i → front_of state i ≡ 0
    → front_of (grown_state net origin dest last state) i ≡ need net origin dest last i
grown-front lists net origin dest last state i node none =
    let made : front_of (grown_state net origin dest last state) i ≡ max (front_of state i) (need net origin dest last i) =
    lists.entry (λ i. max (front_of state i) (need net origin dest last i)) net.nodes i 0 node.0 node.1 in
    omega (arith, made, none)

-- ---- the bounds of the origin, once the tables were filled
-- what the laws of kept tables say of one node
abbrev pub EntriesAre : Net → ℕ → (NodeTable → ℕ → ℕ) → (ℕ → ℕ → ℕ) → Type 0
EntriesAre net dest of f = (i t : ℕ) (s : NodeTable) → IsSettledAt net dest i s → t < known_end s → of s t ≡ f i t

module _ (net : Net) (origin dest last : ℕ) (v : TablesView) (node : IsNode net origin) (to : v.dest ≡ Some dest) (settled : IsSettled (lists_of v) net) (same : table_of (lists_of v) origin ≡ table_at v origin)
    (asked : (s : NodeTable) → origin ≢ dest → IsReadyAt net dest origin s → need net origin dest last origin ≤ known_end s → last < known_end s)
    (front : (table_at v origin).front ≡ need net origin dest last origin) (base : (table_at v origin).base ≡ least_to net dest origin) where
  settled-at : origin ≢ dest → IsSettledAt net dest origin (table_at v origin)
  settled-at off =
      let all : AreSettled net dest (table_of (lists_of v)) = subst (λ (d : Option ℕ). EntriesSettled net (lists_of v) d) to settled.settled in
      subst (λ (s : NodeTable). IsSettledAt net dest origin s) same (all origin node off)

  known-at : origin ≢ dest → last < known_end (table_at v origin)
  known-at off =
      asked (table_at v origin) off (record { settled = settled-at off; based = λ none. base }) (omega (arith, front))

  at-dest : is_at_dest v.dest origin ≡ (origin == dest)
  at-dest = rw to refl

  known : IsKnownAt v origin last
  known = record {
    dest = rw to refl;
    node = (node.0, omega (arith, node.1, settled.kept.nodes.0));
    below = λ elsewhere. known-at (λ (here : origin ≡ dest). true≢false (sym (eq-eqb origin dest here) ∙ sym at-dest ∙ elsewhere));
  }

  bound-is : (of : NodeTable → ℕ → ℕ) (f : ℕ → ℕ → ℕ) → EntriesAre net dest of f → ((t : ℕ) → f dest t ≡ ONE) → (t : ℕ) → t ≤ last → (if is_at_dest v.dest origin then ONE else of (table_at v origin) t) ≡ f origin t
  bound-is of f are one t early =
      ⊎_elim
      (λ (here : origin ≡ dest). rw (at-dest, eq-eqb origin dest here) (sym (ap (λ (i : ℕ). f i t) here ∙ one t)))
      (λ (off : origin ≡ dest → ⊥). rw (at-dest, ne_eqb origin dest off) (are origin t (table_at v origin) (settled-at off) (omega (arith, early, known-at off))))
      (cases_eq origin dest)

  -- the laws of entries, and that who stands at the destination has arrived
  pub has-bounds : EntriesAre net dest lower_of (lo net dest) → EntriesAre net dest upper_of (hi net dest) → ((t : ℕ) → lo net dest dest t ≡ ONE) → ((t : ℕ) → hi net dest dest t ≡ ONE) → HasBounds v net dest origin last
  has-bounds lower upper low-one high-one = record {
    known = known;
    lower = bound-is lower_of (lo net dest) lower low-one;
    upper = bound-is upper_of (hi net dest) upper high-one;
  }
