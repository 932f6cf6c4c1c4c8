use Rattle.std.proofs.Common.{ℕ, ◌≡◌, ◌+◌, ◌-◌, ◌*◌, ◌≤◌, map, slice_index, refl, sym, ◌∙◌, ap, subst, arith}
use Rattle.std.proofs.lemmas.List.{length-map}
use Rattle.sota_network.specs.Network.{Net, IsNode}
use Rattle.sota_kept.specs.NodeTables.{NodeTable, IsGrownAt, IsReadyAt, AreReady, known_end}
use Rattle.sota_kept.specs.States.{missing_in}
use Rattle.sota_kept.specs.TableLists.{AreTables, table_of, state_of}
use Rattle.sota_order.specs.Orders.{OrderView, need_at}
use Rattle.sota_tables.specs.Views.{table_at, lists_of}
use Rattle.sota_fill.specs.Fed.{AllFed}
use Rattle.sota_fill.specs.Fills.{IsLonger}
use Rattle.sota_plan.specs.Laws.{RegionLaws}
use Rattle.sota_plan.proofs.Extends.{left_of}
use Rattle.sota_plan.specs.Runs.{RunView, IsReady, HasPlaces, states_of}
use Rattle.sota_plan.proofs.Stepping.{TableIs}
use Rattle.sota_plan.proofs.Extending.{going-first, next-is, left-less, going-next, going-met, going-count, left-is, grown-is, tables-new}
use Rattle.sota_plan.proofs.Extended.{ready-node, ready-tables, ready-lists, ready-agrees, ready-can, ready-sums, least-times}
use Rattle.sota_plan.proofs.SumGoing.{WereFed, summed-can, fed-all-arcs, summed-next, grown-rise, spent-arc, spent-none}
use Rattle.sota_plan.proofs.extension.extend_all.Goals as goal

pub feed_extent-requires-clause-target : goal.feed_extent-requires-clause-target
feed_extent-requires-clause-target g c =
    let net : Net = c.args.network.now in
    let region = c.args.region.now in
    let R : RegionLaws net region = c.region_laws.ensures net region c.requires.valid c.requires.region c.requires.budget in
    let is = least-times net region c.as_slice.result.now R c.as_slice.ensures in
    record { nodes = is.0; times = is.1 }

pub feed_extent-requires-clause-extent : goal.feed_extent-requires-clause-extent
feed_extent-requires-clause-extent g c =
    let net : Net = c.args.network.now in
    let region = c.args.region.now in
    let R : RegionLaws net region = c.region_laws.ensures net region c.requires.valid c.requires.region c.requires.budget in
    let n = next-is net region R c.args.order.now c.loop-extent.order c.args.tables.now c.loop-extent.tables c.args.pushes.now c.loop-extent.pushes c.in-Some.extent c.loop-extent.invariant.going (ap (λ (w : OrderView). w.needs) c.requires.order) c.in-Some.ensures.next in
    n.unfilled.extent

pub feed_extent-requires-clause-can : goal.feed_extent-requires-clause-can
feed_extent-requires-clause-can g c =
    let net : Net = c.args.network.now in
    let region = c.args.region.now in
    let R : RegionLaws net region = c.region_laws.ensures net region c.requires.valid c.requires.region c.requires.budget in
    let n = next-is net region R c.args.order.now c.loop-extent.order c.args.tables.now c.loop-extent.tables c.args.pushes.now c.loop-extent.pushes c.in-Some.extent c.loop-extent.invariant.going (ap (λ (w : OrderView). w.needs) c.requires.order) c.in-Some.ensures.next in
    let fits : HasPlaces net region c.loop-extent.workspace = subst (λ (m : ℕ). HasPlaces net region m) (sym c.loop-extent.invariant.work) c.requires.work in
    summed-can g.Z.Summer.state net region R.laws R.is R.times R.needs R.none c.loop-extent.workspace c.args.tables.now c.loop-extent.tables c.loop-extent.broad c.in-Some.extent.node c.in-Some.extent.to fits c.loop-extent.invariant.sums n.some n.within

pub fill_extent-requires : goal.fill_extent-requires
fill_extent-requires g c =
    let net : Net = c.args.network.now in
    let region = c.args.region.now in
    let R : RegionLaws net region = c.region_laws.ensures net region c.requires.valid c.requires.region c.requires.budget in
    let n = next-is net region R c.args.order.now c.loop-extent.order c.args.tables.now c.loop-extent.tables c.args.pushes.now c.loop-extent.pushes c.in-Some.extent c.loop-extent.invariant.going (ap (λ (w : OrderView). w.needs) c.requires.order) c.in-Some.ensures.next in
    let were : WereFed g.Z.Summer.state net region R.laws R.is R.times R.needs R.none c.in-Some.extent.node c.in-Some.extent.to c.loop-extent.broad c.feed_extent.new.broad = record { fed = c.feed_extent.ensures.fed; others = c.feed_extent.ensures.others; none = c.feed_extent.ensures.none } in
    let rise : known_end (table_at c.args.tables.now c.in-Some.extent.node) ≤ known_end (table_at c.loop-extent.tables c.in-Some.extent.node) =
    grown-rise (need_at c.args.order.now c.in-Some.extent.node) (table_at c.args.tables.now c.in-Some.extent.node) (table_at c.loop-extent.tables c.in-Some.extent.node) (c.loop-extent.invariant.going.grown c.in-Some.extent.node n.unfilled.node) in
    let is = least-times net region c.as_slice.result.now R c.as_slice.ensures in
    record {
      unfilled = n.unfilled;
      broad = c.feed_extent.ensures.length ∙ c.loop-extent.invariant.same_length ∙ (ready-sums c.views_are_lists.ensures.table net (record { region = region; order = c.args.order.now; sums = map (states_of g.Z.Summer.state) c.args.broad.now; places = c.args.workspace.now }) c.args.tables.now R c.requires g.Z.Summer.state c.args.broad.now refl).1;
      target = record { nodes = is.0; times = is.1 };
      fed = subst (λ (t : ℕ). AllFed g.Z.Summer.state net region.dest c.in-Some.extent.node t c.in-Some.extent.to c.feed_extent.new.broad) (sym n.start)
          (fed-all-arcs g.Z.Summer.state net region R.laws R.is R.times R.needs R.none c.args.tables.now c.loop-extent.tables c.loop-extent.broad c.feed_extent.new.broad c.in-Some.extent.node c.in-Some.extent.to c.loop-extent.invariant.sums n.some n.within were rise);
    }

pub loop-extent-init : goal.loop-extent-init
loop-extent-init g c =
    let net : Net = c.args.network.now in
    let region = c.args.region.now in
    let v = c.args.tables.now in
    let R : RegionLaws net region = c.region_laws.ensures net region c.requires.valid c.requires.region c.requires.budget in
    let table : TableIs = c.views_are_lists.ensures.table in
    let r : RunView = record { region = region; order = c.args.order.now; sums = map (states_of g.Z.Summer.state) c.args.broad.now; places = c.args.workspace.now } in
    record {
      going = going-first net region.dest c.args.order.now v c.args.pushes.now (ready-node table net r v R c.requires) (sym (ap (λ (w : OrderView). w.dest) c.requires.order)) (ready-can table net r v R c.requires) (ready-agrees table net r v R c.requires) (ready-tables table net r v R c.requires);
      same_length = refl;
      work = refl;
      sums = (ready-sums table net r v R c.requires g.Z.Summer.state c.args.broad.now refl).0;
    }

pub loop-extent-smaller : goal.loop-extent-smaller
loop-extent-smaller g c =
    let net : Net = c.args.network.now in
    let region = c.args.region.now in
    let R : RegionLaws net region = c.region_laws.ensures net region c.requires.valid c.requires.region c.requires.budget in
    let less : left_of net.nodes c.args.order.now.needs (table_at c.loop-extent.tables) ≡ left_of net.nodes c.args.order.now.needs (table_at c.fill_extent.new.tables) + (c.in-Some.extent.to - c.in-Some.extent.from) =
    left-less R.lists net region.dest c.args.order.now c.loop-extent.order c.next_extent.new.self c.args.tables.now c.loop-extent.tables c.fill_extent.new.tables c.args.pushes.now c.loop-extent.pushes c.fill_extent.new.pushes c.in-Some.extent
    c.loop-extent.invariant.going c.in-Some.ensures.next c.in-Some.ensures.front c.in-Some.ensures.still c.fill_extent.ensures.ready c.fill_extent.ensures.longer c.fill_extent.ensures.count in
    omega (arith, less, c.in-Some.ensures.next.some)

pub loop-extent-preserved : goal.loop-extent-preserved
loop-extent-preserved g c =
    let net : Net = c.args.network.now in
    let region = c.args.region.now in
    let R : RegionLaws net region = c.region_laws.ensures net region c.requires.valid c.requires.region c.requires.budget in
    let n = next-is net region R c.args.order.now c.loop-extent.order c.args.tables.now c.loop-extent.tables c.args.pushes.now c.loop-extent.pushes c.in-Some.extent c.loop-extent.invariant.going (ap (λ (w : OrderView). w.needs) c.requires.order) c.in-Some.ensures.next in
    let were : WereFed g.Z.Summer.state net region R.laws R.is R.times R.needs R.none c.in-Some.extent.node c.in-Some.extent.to c.loop-extent.broad c.feed_extent.new.broad = record { fed = c.feed_extent.ensures.fed; others = c.feed_extent.ensures.others; none = c.feed_extent.ensures.none } in
    let going = c.loop-extent.invariant.going in
    let extent = c.in-Some.extent in
    let longer : IsLonger extent.node (extent.to - known_end (table_at c.loop-extent.tables extent.node)) c.loop-extent.tables c.fill_extent.new.tables =
    subst (λ (n : ℕ). IsLonger extent.node (extent.to - n) c.loop-extent.tables c.fill_extent.new.tables) n.start c.fill_extent.ensures.longer in
    let rise : known_end (table_at c.args.tables.now extent.node) ≤ known_end (table_at c.loop-extent.tables extent.node) =
    grown-rise (need_at c.args.order.now extent.node) (table_at c.args.tables.now extent.node) (table_at c.loop-extent.tables extent.node) (going.grown extent.node n.unfilled.node) in
    record {
      going = going-next R.lists net region.dest c.args.order.now c.loop-extent.order c.next_extent.new.self c.args.tables.now c.loop-extent.tables c.fill_extent.new.tables c.args.pushes.now c.loop-extent.pushes c.fill_extent.new.pushes extent
          going c.in-Some.ensures.next c.in-Some.ensures.front c.in-Some.ensures.still c.fill_extent.ensures.ready c.fill_extent.ensures.longer c.fill_extent.ensures.count;
      same_length = c.feed_extent.ensures.length ∙ c.loop-extent.invariant.same_length;
      work = c.feed_extent.ensures.work ∙ c.loop-extent.invariant.work;
      sums = summed-next g.Z.Summer.state net region R.laws R.is R.times R.needs R.none c.args.tables.now c.loop-extent.tables c.fill_extent.new.tables c.loop-extent.broad c.feed_extent.new.broad extent.node extent.to
          c.loop-extent.invariant.sums n.some n.within were longer rise;
    }

pub returns : goal.returns
returns g c =
    let net : Net = c.args.network.now in
    let region = c.args.region.now in
    let v = c.args.tables.now in
    let new = c.loop-extent.tables in
    let broad = c.loop-extent.broad in
    let order = c.args.order.now in
    let R : RegionLaws net region = c.region_laws.ensures net region c.requires.valid c.requires.region c.requires.budget in
    let table : TableIs = c.views_are_lists.ensures.table in
    let r : RunView = record { region = region; order = order; sums = map (states_of g.Z.Summer.state) c.args.broad.now; places = c.args.workspace.now } in
    let ready : IsReady r v net = c.requires in
    let going = c.loop-extent.invariant.going in
    let needed : (i : ℕ) → need_at order i ≡ slice_index region.need (i - 1) = λ i. ap (λ (w : OrderView). need_at w i) ready.order in
    let rows : (i : ℕ) → IsNode net i → IsGrownAt (slice_index region.need (i - 1)) (table_at v i) (table_at new i) = λ i node. subst (λ (n : ℕ). IsGrownAt n (table_at v i) (table_at new i)) (needed i) (going.grown i node) in
    let met : (i : ℕ) → IsNode net i → slice_index region.need (i - 1) ≤ known_end (table_at new i) =
    λ i node. subst (λ (n : ℕ). n ≤ known_end (table_at new i)) (needed i) (going-met net region.dest order c.loop-extent.order v new c.args.pushes.now c.loop-extent.pushes going c.in_default.ensures.met i node) in
    let nodes = ready.settled.kept.nodes in
    let grown = grown-is table net region.origin region.dest region.budget region.need v new nodes.0 nodes.1 going.same R.need_is rows in
    let fresh : AreReady net region.dest (table_of (lists_of new)) = λ i node off. subst (λ (s : NodeTable). IsReadyAt net region.dest i s) (sym (table new i)) (going.ready i node off) in
    let held : AreTables (lists_of new) net.nodes =
    tables-new table net region.origin region.dest region.budget region.need v new nodes.0 nodes.1 going.same R.need_is ready.tables_are going.ready going.dest_table in
    let left : left_of net.nodes order.needs (table_at v) ≡ missing_in net region.origin region.dest region.budget (state_of (lists_of v)) =
    ap (λ (w : OrderView). left_of net.nodes w.needs (table_at v)) ready.order
    ∙ left-is table net region.origin region.dest region.budget region.need v new nodes.0 nodes.1 going.same R.need_is R.lists in
    record {
      state = c.asks_end.ensures.state net region.origin region.dest region.budget (lists_of v) (lists_of new) ready.valid ready.budget (ready-lists table net r v R ready) grown
          (λ i node. omega (arith, met i node, R.need_is i node));
      settled = c.tables_stay_right.ensures.settled net region.dest (lists_of new) (ready-node table net r v R ready) (going.same.dest ∙ ready.dest) held fresh;
      count = going-count R.lists net region.dest order c.loop-extent.order v new c.args.pushes.now c.loop-extent.pushes going c.in_default.ensures.met
          ∙ ap (λ (n : ℕ). c.args.pushes.now + 3 * n) left;
      spent = record {
        region = ready.region;
        arcs = length-map broad (states_of g.Z.Summer.state) ∙ c.loop-extent.invariant.same_length ∙ (ready-sums table net r v R ready g.Z.Summer.state c.args.broad.now refl).1;
        sums = spent-arc g.Z.Summer.state net region R.laws R.is R.times R.needs R.none v new broad c.loop-extent.invariant.sums rows met;
        narrow = spent-none g.Z.Summer.state net region R.laws R.is R.times R.needs R.none v new broad c.loop-extent.invariant.sums;
      };
    }
