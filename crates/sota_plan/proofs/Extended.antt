-- A run that is ready can be extended.
use Rattle.std.proofs.Common.{ℕ, ◌≡◌, ◌-◌, List, length, map, get_or, slice_index, slice_index_or, Option, None, refl, sym, ◌∙◌, ap, subst, arith}
use Rattle.std.proofs.lemmas.List.{length-map}
use Rattle.sota_network.specs.Network.{Net, IsNode}
use Rattle.sota_online.specs.Summer.{SummerState}
use Rattle.sota_bounds.specs.declared.ask.AskRegion.{AskRegion}
use Rattle.sota_kept.specs.Ticks.{END_LIMIT, up_to, least_to}
use Rattle.sota_kept.specs.NodeTables.{NodeTable, IsNodeTable, IsSettledAt, IsReadyAt, AreReady, AreSettled, known_end}
use Rattle.sota_kept.specs.TableLists.{EntriesKept, EntriesSettled, table_of}
use Rattle.sota_order.specs.Orders.{OrderView, CanBeMet, need_at, order_end}
use Rattle.sota_tables.specs.Views.{TablesView, lists_of, table_at}
use Rattle.sota_fill.specs.Fed.{SummersList}
use Rattle.sota_plan.specs.Laws.{RegionLaws}
use Rattle.sota_plan.specs.Runs.{ArcSums, RunView, IsReady, states_of}
use Rattle.sota_plan.proofs.Extends.{Agrees, AllSummed}
use Rattle.sota_plan.proofs.Stepping.{TableIs}
use Rattle.sota_plan.proofs.Preparing.{can-be-met}
use Rattle.sota_plan.proofs.SumGoing.{summed-first}

module _ (table : TableIs) (net : Net) (run : RunView) (v : TablesView) (R : RegionLaws net run.region) (ready : IsReady run v net) where
  pub ready-node : IsNode net run.region.dest
  ready-node = (subst (λ (d : Option ℕ). EntriesKept net (lists_of v) d) ready.dest ready.settled.kept.entries).0

  pub ready-tables : AreReady net run.region.dest (table_at v)
  ready-tables i node off =
      let settled : AreSettled net run.region.dest (table_of (lists_of v)) = subst (λ (d : Option ℕ). EntriesSettled net (lists_of v) d) ready.dest ready.settled.settled in
      record { settled = subst (λ (s : NodeTable). IsSettledAt net run.region.dest i s) (table v i) (settled i node off); based = ready.based i node }

  pub ready-lists : AreReady net run.region.dest (table_of (lists_of v))
  ready-lists i node off = subst (λ (s : NodeTable). IsReadyAt net run.region.dest i s) (sym (table v i)) (ready-tables i node off)

  pub ready-long : length v.fronts ≡ net.nodes
  ready-long = ready.settled.kept.nodes.0

  need-here : (i : ℕ) → need_at run.order i ≡ slice_index run.region.need (i - 1)
  need-here i = ap (λ (w : OrderView). need_at w i) ready.order

  end-here : (i : ℕ) → order_end run.order i ≡ known_end (table_at v i)
  end-here i = ap (λ (w : OrderView). order_end w i) ready.order

  pub ready-agrees : Agrees net run.order v
  ready-agrees = record {
    nodes = ready-long;
    ends = λ i node. end-here i;
    room = λ i node. omega (arith, ready.room i node, need-here i);
  }

  pub ready-can : CanBeMet net run.order
  ready-can =
      let plain : OrderView = record { dest = run.region.dest; fronts = v.fronts; bases = v.bases; needs = run.region.need } in
      can-be-met R.lists net R.valid run.region R.is (λ i. R.within i) v (ready.settled.kept.nodes.1 ∙ sym ready-long)
      (λ i low high. subst (λ (s : NodeTable). IsNodeTable s) (table v i) (ready.tables_are.tables i low (omega (arith, high, ready-long))))
      ready-node (ready-long, ready.settled.kept.nodes.1) R.dest_need R.needs_all run.order ready.order
      (R.heads plain (table_at v) refl ready-tables (λ i node. refl) (λ i node. R.need_is i node))

  pub ready-sums : {Z : Type 0} (state : Z → SummerState) (broad : SummersList Z) → run.sums ≡ map (states_of state) broad → AllSummed state net run.region v v broad × (length broad ≡ length net.arcs)
  ready-sums {Z} state broad are = (
    summed-first state net run.region R.laws R.is R.times R.needs R.none v broad (λ e arc at. sym (ap (λ (xs : List (Option ArcSums)). get_or xs (e - 1) None) are) ∙ ready.sums e arc at),
    sym (length-map broad (states_of state)) ∙ sym (ap (λ (xs : List (Option ArcSums)). length xs) are) ∙ ready.arcs,
  )

-- a list that is that of the region has its least times
pub least-times : (net : Net) (region : AskRegion) (least : List (Option ℕ)) → RegionLaws net region → least ≡ region.least
    → (length least ≡ net.nodes) × ((i : ℕ) → IsNode net i → up_to END_LIMIT (slice_index_or least (i - 1) None) ≡ least_to net region.dest i)
least-times net region least R at = (
  ap (λ (xs : List (Option ℕ)). length xs) at ∙ R.is.nodes,
  λ i node. ap (λ (xs : List (Option ℕ)). up_to END_LIMIT (slice_index_or xs (i - 1) None)) at ∙ R.times i node,
)
