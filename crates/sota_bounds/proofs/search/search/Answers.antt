use Rattle.std.proofs.Common.{rules, ℕ, ◌≡◌, ◌-◌, ◌<◌, ◌≤◌, length, set, replicate, Option, None, List, refl, ◌∙◌, ap, arith, heap_items}
use Rattle.std.proofs.Math.ListN.{length-replicate}
use Rattle.std.proofs.lemmas.List.{get_or-replicate}
use Rattle.sota_units.specs.Limits.{NODE_LIMIT}
use Rattle.sota_network.specs.Network.{IsNode}
use Rattle.sota_bounds.specs.Search.{TIME_LIMIT, time_at}
use Rattle.sota_bounds.proofs.Joined.{HasArcs}
use Rattle.sota_bounds.proofs.Settling.{begun, dropped, all-found, all-few, visits-node, visits-soon, visited, shorter, read-none, read-some}
use Rattle.sota_bounds.proofs.Settled.{IsStep, settle, fewer}
use Rattle.sota_bounds.proofs.search.search.Goals.{After-nodes}
use Rattle.sota_bounds.proofs.search.search.Goals as goal

-- the laws, of this network
arcs : (c : After-nodes) → HasArcs c.args.network.now
arcs c = record {
  valid = λ e arc number. c.arcs_by_number.ensures c.args.network.now e arc c.nodes.ensures.valid number;
  only = c.numbers_of_arcs.ensures.only c.args.network.now;
  every = c.numbers_of_arcs.ensures.all c.args.network.now;
  few = c.numbers_of_arcs.ensures.few c.args.network.now;
}

pub loop-visit-init : goal.loop-visit-init
loop-visit-init c =
    let all : c.in_ok-times.times.items ≡ replicate c.nodes.result None = c.in_ok-times.ensures.items_if_clones_equal (λ y e. search rules) in
    let count : length c.in_ok-times.times.items ≡ c.args.network.now.nodes = ap length all ∙ length-replicate c.nodes.result None ∙ c.nodes.ensures.value in
    record {
      order = search rules;
      search = begun c.args.network.now (arcs (goal.at.loop-visit-init c).After-nodes) c.args.dest c.args.direction c.args.source c.requires c.in_ok-times.times.items (heap_items c.push.new.self)
          (record { time = record { 0 = 0 }; node = c.args.source }) count (λ i node.
          let within : i - 1 < c.nodes.result = omega (arith, node, c.nodes.ensures.value) in
          ap (λ (ts : List (Option ℕ)). time_at ts i) all ∙ get_or-replicate c.nodes.result (i - 1) None None within) refl refl (rw c.new-queue.ensures.items at c.in_ok-push.ensures.permutation);
    }

-- what is visited is a node, with a place
pub overflow_sub-index : goal.overflow_sub-index
overflow_sub-index c =
    let node : IsNode c.args.network.now c.in-Some.visit.node =
    visits-node c.args.network.now c.args.dest c.args.direction c.args.source c.loop-visit.times.items (heap_items c.loop-visit.queue) (heap_items c.earliest_within.new.queue) c.in-Some.visit c.loop-visit.invariant.search c.in-Some.ensures.taken in
    omega (arith, node.0, c.get.ensures)

pub index-requires : goal.index-requires
index-requires c =
    let within : c.get.result - 1 < length c.loop-visit.times.items =
    visited c.args.network.now c.args.dest c.args.direction c.args.source c.loop-visit.times.items (heap_items c.loop-visit.queue) (heap_items c.earliest_within.new.queue) c.in-Some.visit c.loop-visit.invariant.search c.in-Some.ensures.taken
    c.get.result c.get.ensures in
    omega (arith, within)

pub index_mut-requires : goal.index_mut-requires
index_mut-requires c =
    let within : c.get.result - 1 < length c.loop-visit.times.items =
    visited c.args.network.now c.args.dest c.args.direction c.args.source c.loop-visit.times.items (heap_items c.loop-visit.queue) (heap_items c.earliest_within.new.queue) c.in-Some.visit c.loop-visit.invariant.search c.in-Some.ensures.taken
    c.get.result c.get.ensures in
    omega (arith, within)

pub queue_next-requires-clause-node : goal.queue_next-requires-clause-node
queue_next-requires-clause-node c =
    visits-node c.args.network.now c.args.dest c.args.direction c.args.source c.loop-visit.times.items (heap_items c.loop-visit.queue) (heap_items c.earliest_within.new.queue) c.in-Some.visit c.loop-visit.invariant.search c.in-Some.ensures.taken

pub some-requires : goal.some-requires
some-requires c =
    let soon : c.in-Some.visit.time.0 ≤ TIME_LIMIT =
    visits-soon c.args.network.now c.args.dest c.args.direction c.args.source c.loop-visit.times.items (heap_items c.loop-visit.queue) (heap_items c.earliest_within.new.queue) c.in-Some.visit c.loop-visit.invariant.search c.in-Some.ensures.taken
    (let small : c.args.network.now.nodes ≤ NODE_LIMIT = omega (arith, c.nodes.ensures.within) in small) in
    omega (arith, soon)

pub queue_next-requires-clause-time : goal.queue_next-requires-clause-time
queue_next-requires-clause-time c =
    let soon : c.in-Some.visit.time.0 ≤ TIME_LIMIT =
    visits-soon c.args.network.now c.args.dest c.args.direction c.args.source c.loop-visit.times.items (heap_items c.loop-visit.queue) (heap_items c.earliest_within.new.queue) c.in-Some.visit c.loop-visit.invariant.search c.in-Some.ensures.taken
    (let small : c.args.network.now.nodes ≤ NODE_LIMIT = omega (arith, c.nodes.ensures.within) in small) in
    omega (arith, soon)

pub loop-visit-smaller : goal.loop-visit-smaller
loop-visit-smaller c =
    let less : length (heap_items c.earliest_within.new.queue) < length (heap_items c.loop-visit.queue) =
    shorter c.args.network.now c.args.dest c.args.direction c.args.source c.loop-visit.times.items (heap_items c.loop-visit.queue) (heap_items c.earliest_within.new.queue) c.in-Some.visit c.loop-visit.invariant.search c.in-Some.ensures.taken in
    omega (arith, less)

-- the step of the search that an iteration took
step : (c : goal.In_ok-queue_next) → IsStep c.args.network.now c.args.dest c.args.direction c.loop-visit.times.items (set c.loop-visit.times.items (c.get.result - 1) c.some.result) (heap_items c.loop-visit.queue) (heap_items c.earliest_within.new.queue)
    (heap_items c.queue_next.new.queue) c.in-Some.visit
step c = record {
  moved = c.in-Some.ensures.taken;
  earliest = c.in-Some.ensures.earliest;
  never = read-none c.loop-visit.times.items c.get.result c.in-Some.visit.node c.index.result.now c.is_none.result c.get.ensures
      (visited c.args.network.now c.args.dest c.args.direction c.args.source c.loop-visit.times.items (heap_items c.loop-visit.queue) (heap_items c.earliest_within.new.queue) c.in-Some.visit c.loop-visit.invariant.search
      c.in-Some.ensures.taken c.get.result c.get.ensures) c.index.ensures c.is_none.ensures c.if-is_none.true;
  becomes = ap (λ (k : ℕ). set c.loop-visit.times.items (k - 1) c.some.result) c.get.ensures
      ∙ ap (λ (time : Option ℕ). set c.loop-visit.times.items (c.in-Some.visit.node - 1) time) c.some.ensures;
  queued = rw c.deref.ensures.value at c.in_ok-queue_next.ensures.queued;
  soon = c.in_ok-queue_next.ensures.soon;
}

pub loop-visit-smaller-in-Continue-branch-3 : goal.loop-visit-smaller-in-Continue-branch-3
loop-visit-smaller-in-Continue-branch-3 c =
    fewer c.args.network.now (arcs (goal.at.loop-visit-smaller-in-Continue-branch-3 c).After-nodes) c.args.dest c.args.direction c.args.source c.requires c.loop-visit.times.items (set c.loop-visit.times.items (c.get.result - 1) c.some.result) (heap_items c.loop-visit.queue) (heap_items c.earliest_within.new.queue)
    (heap_items c.queue_next.new.queue) c.in-Some.visit c.loop-visit.invariant.search (step c)

pub loop-visit-preserved-in-Continue-branch-3 : goal.loop-visit-preserved-in-Continue-branch-3
loop-visit-preserved-in-Continue-branch-3 c = record {
  order = c.in_ok-queue_next.ensures.order;
  search = settle c.args.network.now (arcs (goal.at.loop-visit-preserved-in-Continue-branch-3 c).After-nodes) c.args.dest c.args.direction c.args.source c.requires c.loop-visit.times.items (set c.loop-visit.times.items (c.get.result - 1) c.some.result) (heap_items c.loop-visit.queue) (heap_items c.earliest_within.new.queue)
      (heap_items c.queue_next.new.queue) c.in-Some.visit c.loop-visit.invariant.search (step c);
}

pub loop-visit-preserved : goal.loop-visit-preserved
loop-visit-preserved c = record {
  order = search rules;
  search = dropped c.args.network.now (arcs (goal.at.loop-visit-preserved c).After-nodes) c.args.dest c.args.direction c.args.source c.requires c.loop-visit.times.items (heap_items c.loop-visit.queue) c.loop-visit.invariant.search
      (heap_items c.earliest_within.new.queue) c.in-Some.visit c.in-Some.ensures.taken
      (read-some c.loop-visit.times.items c.get.result c.in-Some.visit.node c.index.result.now c.is_none.result c.get.ensures
      (visited c.args.network.now c.args.dest c.args.direction c.args.source c.loop-visit.times.items (heap_items c.loop-visit.queue) (heap_items c.earliest_within.new.queue) c.in-Some.visit c.loop-visit.invariant.search
      c.in-Some.ensures.taken c.get.result c.get.ensures) c.index.ensures c.is_none.ensures c.if-is_none.false);
}

pub returns-clause-found : goal.returns-clause-found
returns-clause-found c = λ i node.
    all-found c.args.network.now (arcs (goal.at.returns-clause-found c).After-nodes) c.args.dest c.args.direction c.args.source c.requires c.loop-visit.times.items (heap_items c.loop-visit.queue) c.loop-visit.invariant.search
    c.args.most c.in_default.ensures.beyond i node

pub returns-clause-within : goal.returns-clause-within
returns-clause-within c =
    all-few c.args.network.now c.args.dest c.args.direction c.args.source c.loop-visit.times.items (heap_items c.loop-visit.queue) c.loop-visit.invariant.search (let small : c.args.network.now.nodes ≤ NODE_LIMIT = omega (arith, c.nodes.ensures.within) in small)
