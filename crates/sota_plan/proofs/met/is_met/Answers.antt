use Rattle.std.proofs.Common.{rules, ℕ, ◌≡◌, ◌≤◌, inl, true, false, List, length, refl, sym, ◌∙◌, ap, subst}
use Rattle.sota_network.specs.Network.{Net, IsNet, IsNode}
use Rattle.sota_network.specs.Region.{need}
use Rattle.sota_network.specs.Laws.{ListLaws}
use Rattle.sota_kept.specs.NodeTables.{NodeTable, AreReady, known_end}
use Rattle.sota_kept.specs.States.{is_dest, prepared_state, grown_state}
use Rattle.sota_kept.specs.TableLists.{AreTables, table_of, state_of}
use Rattle.sota_kept.specs.Asks.{IsPrepared}
use Rattle.sota_tables.specs.Views.{lists_of}
use Rattle.sota_plan.specs.Steps.{too_many}
use Rattle.sota_plan.proofs.Preparing.{needs-within}
use Rattle.sota_plan.proofs.Meeting.{not-so, met-need, met-base, met-prepared}
use Rattle.sota_plan.proofs.met.is_met.Goals as goal

pub returns : goal.returns
returns c = λ yes.
    let net : Net = c.args.network.now in
    let region = c.args.region.now in
    let v = c.args.tables.now in
    let valid : IsNet net = search rules in
    let laws : ListLaws = c.lists_by_number.ensures in
    let stay = c.tables_stay_right.ensures in
    let ends = c.asks_end.ensures in
    let table = c.views_are_lists.ensures.table in
    let times = c.least_ticks.ensures.time in
    let long = c.requires.kept.nodes in
    let there : c.is_towards.result ≡ true = search rules in
    let towards : is_dest v.dest region.dest ≡ true = sym c.is_towards.ensures.value ∙ there in
    let all : c.all_have.result ≡ true = search rules in
    let each = c.all_have.ensures.each all in
    let fits : too_many v region.need (length v.fronts) ≡ false = ap (λ (needs : List ℕ). too_many v needs (length v.fronts)) (sym c.as_slice.ensures) ∙ sym c.is_over.ensures ∙ not-so c.is_over.result yes in
    let within = needs-within net region.origin region.dest region.budget (λ i. c.needs_are_met.ensures.above net region.origin region.dest region.budget i valid c.requires.budget) in
    let held : AreTables (lists_of v) net.nodes = subst (λ (n : ℕ). AreTables (lists_of v) n) long.0 (c.views_are_lists.ensures.tables v c.all_have.ensures.valid) in
    let prepared : IsPrepared net region.origin region.dest region.budget (lists_of v) (lists_of v) =
    met-prepared laws times net valid region c.requires.region v long each table held towards fits (λ middle. stay.cells net region.origin region.dest region.budget (lists_of v) (lists_of v) held middle) in
    let ready : AreReady net region.dest (table_of (lists_of v)) = stay.prepared net region.origin region.dest region.budget (lists_of v) (lists_of v) valid c.requires.kept held prepared in
    let state : state_of (lists_of v) ≡ prepared_state net region.origin region.dest region.budget (state_of (lists_of v)) = stay.prepared_state net region.origin region.dest region.budget (lists_of v) (lists_of v) held prepared in
    let needs : (i : ℕ) → IsNode net i → need net region.origin region.dest region.budget i ≤ known_end (table_of (lists_of v) i) =
    λ i node. subst (λ (s : NodeTable). need net region.origin region.dest region.budget i ≤ known_end s) (sym (table v i)) (met-need laws times net valid region c.requires.region v long each within i node) in
    let grown : state_of (lists_of v) ≡ grown_state net region.origin region.dest region.budget (state_of (lists_of v)) =
    ends.state net region.origin region.dest region.budget (lists_of v) (lists_of v) valid c.requires.budget ready (record { to = refl; bases = refl; nodes = long.0; tables = λ i node. record { base = refl; front = inl refl } }) needs in
    record {
      valid = valid;
      dest = prepared.to;
      settled = stay.settled net region.dest (lists_of v) c.requires.dest prepared.to held ready;
      based = met-base laws times net valid region c.requires.region v long each;
      grown = grown;
      after = grown ∙ ap (grown_state net region.origin region.dest region.budget) state;
      none = ends.missing net region.origin region.dest region.budget (lists_of v) (state_of (lists_of v)) state ∙ ends.nothing net region.origin region.dest region.budget (table_of (lists_of v)) needs;
    }
