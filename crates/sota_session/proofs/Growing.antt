-- The tables after the last step of an ask.
use Rattle.std.proofs.Common.{ℕ, ◌≡◌, ◌≢◌, ◌<◌, ◌≤◌, max, true, false, List, length, Option, None, Some, IsSome, refl, sym, ◌∙◌, ap, arith, subst, ⊎_elim}
use Rattle.std.proofs.lemmas.Bool.{cases_eq, eq-eqb, ne_eqb, true≢false}
use Rattle.sota_units.specs.Rounding.{floor_by, ceiling_by}
use Rattle.sota_network.specs.Network.{Net, IsNode}
use Rattle.sota_network.specs.Grid.{lo, hi, choice, value_from}
use Rattle.sota_network.specs.Region.{need}
use Rattle.sota_network.specs.Laws.{ListLaws}
use Rattle.sota_kept.specs.Ticks.{least_to}
use Rattle.sota_kept.specs.NodeTables.{NodeTable, IsSettledAt, IsReadyAt, known_end, lower_of, upper_of, next_of}
use Rattle.sota_kept.specs.States.{State, front_of, base_of, grown_state}
use Rattle.sota_kept.specs.TableLists.{IsSettled, EntriesSettled, state_of, table_of}
use Rattle.sota_bounds.specs.Cells.{listed_need}
use Rattle.sota_bounds.specs.Regions.{IsRegion}
use Rattle.sota_bounds.specs.declared.ask.AskRegion.{AskRegion}
use Rattle.sota_tables.specs.Views.{TablesView, HasNode, IsKnownAt, is_at_dest, lists_of, table_at, known_lower, known_upper, choice_in}
use Rattle.sota_session.specs.Rows.{IsPlanned}

-- the last step was taken, in tables that were ready for it, with the laws that say what this means
pub record HasGrown (net : Net) (region : AskRegion) (mid new : TablesView) : Type 0 where
  pub lists : ListLaws
  pub is : IsRegion region net region.origin region.dest region.budget
  pub origin : IsNode net region.origin
  pub to : mid.dest ≡ Some region.dest
  pub based : (i : ℕ) → IsNode net i → (table_at mid i).front ≤ least_to net region.dest i → (table_at mid i).base ≡ least_to net region.dest i
  pub state : state_of (lists_of new) ≡ grown_state net region.origin region.dest region.budget (state_of (lists_of mid))
  pub settled : IsSettled (lists_of new) net
  pub table : (v : TablesView) (i : ℕ) → table_of (lists_of v) i ≡ table_at v i
  pub known : (s : NodeTable) → region.origin ≢ region.dest → IsReadyAt net region.dest region.origin s → need net region.origin region.dest region.budget region.origin ≤ known_end s → region.budget < known_end s
  pub lower : (i t : ℕ) (s : NodeTable) → IsSettledAt net region.dest i s → t < known_end s → lower_of s t ≡ lo net region.dest i t
  pub upper : (i t : ℕ) (s : NodeTable) → IsSettledAt net region.dest i s → t < known_end s → upper_of s t ≡ hi net region.dest i t
  pub choice_is : (i t : ℕ) (s : NodeTable) → i ≢ region.dest → IsSettledAt net region.dest i s → t < known_end s → next_of s t ≡ choice net region.dest i t
  pub lower_recurs : (i t : ℕ) → lo net region.dest i t ≡ value_from floor_by net region.dest (lo net region.dest) i t
  pub upper_recurs : (i t : ℕ) → hi net region.dest i t ≡ value_from ceiling_by net region.dest (hi net region.dest) i t

none-there : (net : Net) (dest t : ℕ) → choice net dest dest t ≡ None
unfolding choice
none-there net dest t = rw (eq-eqb dest dest refl) refl

module _ (net : Net) (region : AskRegion) (mid new : TablesView) (has : HasGrown net region mid new) where
  abbrev wanted : ℕ → ℕ
  wanted = need net region.origin region.dest region.budget

  nodes-are : length new.fronts ≡ net.nodes
  nodes-are = ap (λ (s : State). length s.fronts) has.state ∙ has.lists.count (λ i. max (front_of (state_of (lists_of mid)) i) (wanted i)) net.nodes

  new-dest : new.dest ≡ Some region.dest
  new-dest = ap (λ (s : State). s.dest) has.state ∙ has.to

  new-front : (i : ℕ) → IsNode net i → (table_at new i).front ≡ max (table_at mid i).front (wanted i)
  new-front i node = ap (λ (s : State). front_of s i) has.state ∙ has.lists.entry (λ i. max (front_of (state_of (lists_of mid)) i) (wanted i)) net.nodes i 0 node.0 node.1

  new-base : (i : ℕ) → (table_at new i).base ≡ (table_at mid i).base
  new-base i = ap (λ (s : State). base_of s i) has.state

  met : (i : ℕ) → IsNode net i → wanted i ≤ known_end (table_at new i)
  met i node = omega (arith, new-front i node)

  -- ---- what is known
  there : (i : ℕ) → i ≡ region.dest → is_at_dest new.dest i ≡ true
  there i at = ap (λ (d : Option ℕ). is_at_dest d i) new-dest ∙ eq-eqb i region.dest at

  elsewhere : (i : ℕ) → i ≢ region.dest → is_at_dest new.dest i ≡ false
  elsewhere i off = ap (λ (d : Option ℕ). is_at_dest d i) new-dest ∙ ne_eqb i region.dest off

  not-there : (i : ℕ) → is_at_dest new.dest i ≡ false → i ≢ region.dest
  not-there i off at = true≢false (sym (there i at) ∙ off)

  settled-at : (i : ℕ) → IsNode net i → i ≢ region.dest → IsSettledAt net region.dest i (table_at new i)
  settled-at i node off =
      subst (IsSettledAt net region.dest i) (has.table new i)
      (subst (λ (d : Option ℕ). EntriesSettled net (lists_of new) d) new-dest has.settled.settled i node off)

  known-at : (i t : ℕ) → IsNode net i → (i ≢ region.dest → t < known_end (table_at new i)) → IsKnownAt new i t
  known-at i t node below = record {
    dest = subst (λ (d : Option ℕ). IsSome d) (sym new-dest) refl;
    node = (node.0, (let high : i ≤ length new.fronts = omega (arith, node.1, nodes-are) in high));
    below = λ off. below (not-there i off);
  }

  node-of : (i : ℕ) → HasNode new i → IsNode net i
  node-of i node = (node.0, (let high : i ≤ net.nodes = omega (arith, node.1, nodes-are) in high))

  need-is : (i : ℕ) → IsNode net i → listed_need region.need i ≡ wanted i
  need-is i node = ap (λ (needs : List ℕ). listed_need needs i) has.is.need ∙ has.lists.entry wanted net.nodes i 0 node.0 node.1

  -- ---- what is known is the grid's
  below-end : (i t : ℕ) → IsKnownAt new i t → i ≢ region.dest → t < known_end (table_at new i)
  below-end i t known off = known.below (elsewhere i off)

  lower-is : (i t : ℕ) → IsKnownAt new i t → known_lower new i t ≡ lo net region.dest i t
  lower-is i t known =
      ⊎_elim
      (λ (at : i ≡ region.dest). rw (there i at) (sym (has.lower_recurs i t ∙ (rw (eq-eqb i region.dest at) refl))))
      (λ (off : i ≢ region.dest). rw (elsewhere i off) (has.lower i t (table_at new i) (settled-at i (node-of i known.node) off) (below-end i t known off)))
      (cases_eq i region.dest)

  upper-is : (i t : ℕ) → IsKnownAt new i t → known_upper new i t ≡ hi net region.dest i t
  upper-is i t known =
      ⊎_elim
      (λ (at : i ≡ region.dest). rw (there i at) (sym (has.upper_recurs i t ∙ (rw (eq-eqb i region.dest at) refl))))
      (λ (off : i ≢ region.dest). rw (elsewhere i off) (has.upper i t (table_at new i) (settled-at i (node-of i known.node) off) (below-end i t known off)))
      (cases_eq i region.dest)

  choice-is : (i t : ℕ) → IsKnownAt new i t → choice_in new i t ≡ choice net region.dest i t
  choice-is i t known =
      ⊎_elim
      (λ (at : i ≡ region.dest). rw (there i at, at) (sym (none-there net region.dest t)))
      (λ (off : i ≢ region.dest). rw (elsewhere i off) (has.choice_is i t (table_at new i) off (settled-at i (node-of i known.node) off) (below-end i t known off)))
      (cases_eq i region.dest)

  ready-at : (i : ℕ) → IsNode net i → i ≢ region.dest → IsReadyAt net region.dest i (table_at new i)
  ready-at i node off = record {
    settled = settled-at i node off;
    based = λ below. new-base i ∙ has.based i node (let less : (table_at mid i).front ≤ least_to net region.dest i = omega (arith, new-front i node, below) in less);
  }

  pub planned : IsPlanned region new net
  planned = record {
    region_is = has.is;
    nodes = nodes-are;
    agrees = record {
      least = has.is.nodes ∙ sym nodes-are;
      need = ap (λ (needs : List ℕ). length needs) has.is.need ∙ has.lists.count wanted net.nodes ∙ sym nodes-are;
      known = λ i t node less. known-at i t (node-of i node) (λ off. let below : t < known_end (table_at new i) = omega (arith, less, need-is i (node-of i node), met i (node-of i node)) in below);
    };
    asked = known-at region.origin region.budget has.origin (λ off. has.known (table_at new region.origin) off (ready-at region.origin has.origin off) (met region.origin has.origin));
    lower = lower-is;
    upper = upper-is;
    choice_is = choice-is;
  }
