-- What was made before an entry is filled is a run that is ready.
use Rattle.std.proofs.Common.{ℕ, zero, suc, ◌≡◌, ◌-◌, ◌≤◌, not, nat_lt, Bool, [], ◌∷◌, map, length, get_or, None, Some, refl, sym, ◌∙◌, ap, subst}
use Rattle.std.proofs.lemmas.List.{length-map}
use Rattle.sota_units.specs.Limits.{BUDGET_LIMIT}
use Rattle.sota_network.specs.Network.{Net, IsNet, IsArc, IsNode, arc_at}
use Rattle.sota_network.specs.declared.network.Arc.{Arc}
use Rattle.sota_online.specs.Summer.{SummerState, kernel_of}
use Rattle.sota_bounds.specs.Cells.{pairs_by_lists}
use Rattle.sota_bounds.specs.Regions.{IsRegion}
use Rattle.sota_bounds.specs.declared.ask.AskRegion.{AskRegion}
use Rattle.sota_kept.specs.Ticks.{least_to}
use Rattle.sota_kept.specs.NodeTables.{NodeTable, known_end, prepared_table}
use Rattle.sota_kept.specs.States.{KEPT_LIMIT, is_dest, started_state, based_state, cells_kept}
use Rattle.sota_kept.specs.TableLists.{TableLists, AreTables, IsSettled, state_of, table_of}
use Rattle.sota_kept.specs.Asks.{IsPrepared}
use Rattle.sota_order.specs.Orders.{OrderView}
use Rattle.sota_tables.specs.Views.{TablesView, table_at, lists_of, room_of}
use Rattle.sota_fill.specs.Fed.{SummersList}
use Rattle.sota_plan.specs.Runs.{IsReady, FitsIn, is_broad_by, most_fed, first_position, first_sums_by, made_sums, states_of, states_at}
use Rattle.sota_plan.proofs.Stepping.{TableIs, base-prepared}

-- what stands for an arc, by the states of all
sums-read : {Z : Type 0} (state : Z → SummerState) (broad : SummersList Z) (k : ℕ) → get_or (map (states_of state) broad) k None ≡ states_of state (get_or broad k None)
sums-read state [] k = refl
sums-read state (x ∷ xs) zero = refl
sums-read state (x ∷ xs) (suc k) = sums-read state xs k

pub ready-run : TableIs → (net : Net) → IsNet net → (region : AskRegion) → IsRegion region net region.origin region.dest region.budget → region.budget ≤ BUDGET_LIMIT
    → (old : TableLists) (v : TablesView) → IsPrepared net region.origin region.dest region.budget old (lists_of v) → AreTables (lists_of v) net.nodes → IsSettled (lists_of v) net
    → ((i : ℕ) → IsNode net i → get_or region.need (i - 1) 0 - known_end (table_at v i) ≤ room_of v i)
    → (order : OrderView) → order ≡ record { dest = region.dest; fronts = v.fronts; bases = v.bases; needs = region.need }
    → ((e : ℕ) (arc : Arc) → arc_at net e ≡ Some arc → IsArc net arc) → {Z : Type 0} (state : Z → SummerState) (broad : SummersList Z) → length broad ≡ length net.arcs
    → ((e : ℕ) (arc : Arc) → arc_at net e ≡ Some arc → states_at state broad e ≡ made_sums v region arc) → (places : ℕ) → ((e : ℕ) (arc : Arc) → arc_at net e ≡ Some arc → FitsIn region places arc)
    → IsReady (record { region = region; order = order; sums = map (states_of state) broad; places = places }) v net
ready-run table net valid region is within old v prepared held settled room order at arcs state broad long are places fits =
    -- the number of pairs of an arc's tail, by the lists of the region
    let pairs : (e : ℕ) (arc : Arc) → arc_at net e ≡ Some arc → most_fed net region arc ≡ pairs_by_lists region.least region.need arc.tail = λ e arc number. is.pairs arc.tail (arcs e arc number).tail in
    record {
      valid = valid;
      tables_are = held;
      settled = settled;
      based = λ i node.
          let least : ℕ = least_to net region.dest i in
          let fresh : Bool = not (is_dest old.dest region.dest) in
          let over : Bool = nat_lt KEPT_LIMIT (cells_kept net region.origin region.dest region.budget (based_state net region.dest (started_state net region.dest (state_of old)))) in
          let made : table_at v i ≡ prepared_table fresh over least (table_of old i) = sym (table v i) ∙ prepared.tables i node in
          λ low. ap (λ (s : NodeTable). s.base) made ∙ base-prepared fresh over least (table_of old i) (subst (λ (s : NodeTable). s.front ≤ least) made low);
      region = is;
      budget = within;
      dest = prepared.to;
      room = room;
      order = at;
      arcs = length-map broad (states_of state) ∙ long;
      sums = λ e arc number.
          sums-read state broad (e - 1) ∙ are e arc number
          ∙ ap (λ (n : ℕ). first_sums_by n (first_position v region arc) region.budget arc) (sym (pairs e arc number));
      work = λ e arc number wide.
          subst (λ (n : ℕ). length (kernel_of n arc.time) ≤ places) (sym (pairs e arc number))
          (fits e arc number (ap (λ (n : ℕ). is_broad_by n region.budget arc) (sym (pairs e arc number)) ∙ wide));
    }
