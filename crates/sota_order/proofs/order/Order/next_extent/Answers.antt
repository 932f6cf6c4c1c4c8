use Rattle.std.proofs.Common.{ℕ, ◌≡◌, ◌-◌, ◌<◌, ◌≤◌, length, get_or, set, ◌∷◌, List, refl, sym, ◌∙◌, ap, subst, arith, heap_items, heap_len}
use Rattle.std.specs.List.Sorted.{IsPermutation}
use Rattle.std.specs.BinaryHeap.{heap_capacity, IsUpperBound}
use Rattle.sota_network.specs.Network.{IsNode}
use Rattle.sota_order.specs.Orders.{OrderView, CanBeMet, IsReach, need_at, with_front}
use Rattle.sota_order.specs.Queue.{by_end, AreTurns}
use Rattle.sota_order.specs.declared.order.Turn.{Turn}
use Rattle.sota_order.proofs.Reaching.{get_or-default}
use Rattle.sota_order.proofs.Nexting.{Arcs, IsTaken, next-node, next-more, next-can, next-met, next-again, next-is, ok-then}
use Rattle.sota_order.proofs.order.Order.next_extent.Goals.{After-reach_of-to, then-to-need, else-to-need}
use Rattle.sota_order.proofs.order.Order.next_extent.Goals as goal

-- what is needed of the node whose turn it is
need : (c : After-reach_of-to) → IsNode c.args.network.now c.in_ok-turn.turn.node → length c.self.inside.needs.items ≡ c.args.network.now.nodes
    → get_or c.self.inside.needs.items (c.in_ok-turn.turn.node - 1) 0 ≡ c.index-need.result.now
need c node long =
    ap (λ (k : ℕ). get_or c.self.inside.needs.items (k - 1) 0) (sym c.get.ensures)
    ∙ get_or-default c.self.inside.needs.items (c.get.result - 1) 0 c.index-need.result.now (omega (arith, node, c.get.ensures, long)) ∙ sym c.index-need.ensures

taken : (c : After-reach_of-to)
    → IsTaken c.args.network.now (record { dest = c.self.inside.dest; fronts = c.self.inside.fronts.items; bases = c.self.inside.bases.items; needs = c.self.inside.needs.items })
    (heap_items c.self.inside.turns) (heap_items c.pop.new.self) c.in_ok-turn.turn c.reach_of-to.result
taken c =
    let w : OrderView = record { dest = c.self.inside.dest; fronts = c.self.inside.fronts.items; bases = c.self.inside.bases.items; needs = c.self.inside.needs.items } in
    let is : CanBeMet c.args.network.now w = subst (λ (x : OrderView). CanBeMet c.args.network.now x) (sym c.self.view_is) c.requires in
    let v : Turn = c.in_ok-turn.turn in
    let xs : List Turn = heap_items c.self.inside.turns in
    let ys : List Turn = heap_items c.pop.new.self in
    let arcs : Arcs c.args.network.now = λ e arc number. c.arcs_by_number.ensures c.args.network.now e arc c.reach_of-to.ensures.valid number in
    let moved : IsPermutation xs (v ∷ ys) = c.in_ok-turn.ensures.permutation in
    let greatest : IsUpperBound by_end v xs = (c.in_ok-turn.ensures.heap_order c.self.invariant.1).1 in
    let node : IsNode c.args.network.now v.node = next-node c.args.network.now arcs w is xs c.self.invariant.0 v ys moved in
    let reach : IsReach c.args.network.now w v.node c.reach_of-to.result =
    c.reach_of-to.ensures.reach w refl (sym c.deref.ensures.value) (sym c.deref-2.ensures.value) (need c node is.nodes.2) in
    record {
      can = is;
      arcs = arcs;
      moved = moved;
      greatest = greatest;
      node = node;
      reach = reach;
      more = next-more c.args.network.now arcs w is xs c.self.invariant.0 v ys moved greatest c.reach_of-to.result reach;
    }

pub invariant_of-self-then-to-need : goal.invariant_of-self-then-to-need
invariant_of-self-then-to-need c =
    let w : OrderView = record { dest = c.self.inside.dest; fronts = c.self.inside.fronts.items; bases = c.self.inside.bases.items; needs = c.self.inside.needs.items } in
    let t = taken (goal.at.invariant_of-self-then-to-need c).After-reach_of-to in
    let v : Turn = c.in_ok-turn.turn in
    let needed : need_at w v.node ≡ c.index-need.result.now = need (goal.at.invariant_of-self-then-to-need c).After-reach_of-to t.node t.can.nodes.2 in
    let fits : heap_len c.self.inside.turns ≤ heap_capacity c.self.inside.turns = c.self.invariant.2 in
    let room : heap_len c.pop.new.self < heap_capacity c.pop.new.self = omega (arith, c.in_ok-turn.ensures.len, c.in_ok-turn.ensures.capacity, fits) in
    let ok = c.push.ensures.succeeds room in
    let put = ok-then c.push.result ok c.push.ensures.permutation in
    let len = ok-then c.push.result ok c.push.ensures.len in
    let heap = ok-then c.push.result ok c.push.ensures.heap_order in
    let there : AreTurns (with_front w v.node c.reach_of-to.result) (length w.needs) (heap_items c.push.new.self) =
    next-again c.args.network.now t.arcs w t.can (heap_items c.self.inside.turns) c.self.invariant.0 v (heap_items c.pop.new.self) t.moved c.reach_of-to.result t.more (heap_items c.push.new.self)
    (record { end = record { 0 = c.reach_of-to.result }; node = v.node }) refl refl put (omega (arith, needed, c.if-to-need.true)) in (
      subst (λ (k : ℕ). AreTurns (record { dest = w.dest; fronts = set w.fronts (k - 1) c.reach_of-to.result; bases = w.bases; needs = w.needs }) (length w.needs) (heap_items c.push.new.self)) (sym c.get.ensures) there,
      heap (c.in_ok-turn.ensures.heap_order c.self.invariant.1).0,
      omega (arith, len, room, c.push.ensures.capacity),
    )

pub invariant_of-self-else-to-need : goal.invariant_of-self-else-to-need
invariant_of-self-else-to-need c =
    let w : OrderView = record { dest = c.self.inside.dest; fronts = c.self.inside.fronts.items; bases = c.self.inside.bases.items; needs = c.self.inside.needs.items } in
    let t = taken (goal.at.invariant_of-self-else-to-need c).After-reach_of-to in
    let v : Turn = c.in_ok-turn.turn in
    let ys : List Turn = heap_items c.pop.new.self in
    let needed : need_at w v.node ≡ c.index-need.result.now = need (goal.at.invariant_of-self-else-to-need c).After-reach_of-to t.node t.can.nodes.2 in
    let there : AreTurns (with_front w v.node c.reach_of-to.result) (length w.needs) ys =
    next-met c.args.network.now t.arcs w t.can (heap_items c.self.inside.turns) c.self.invariant.0 v ys t.moved c.reach_of-to.result t.more (omega (arith, needed, c.if-to-need.false)) in (
      subst (λ (k : ℕ). AreTurns (record { dest = w.dest; fronts = set w.fronts (k - 1) c.reach_of-to.result; bases = w.bases; needs = w.needs }) (length w.needs) ys) (sym c.get.ensures) there,
      (c.in_ok-turn.ensures.heap_order c.self.invariant.1).0,
      (let fits : heap_len c.self.inside.turns ≤ heap_capacity c.self.inside.turns = c.self.invariant.2 in omega (arith, c.in_ok-turn.ensures.len, c.in_ok-turn.ensures.capacity, fits)),
    )

pub returns-clause-next : goal.returns-clause-next
returns-clause-next c =
    let w : OrderView = record { dest = c.self.inside.dest; fronts = c.self.inside.fronts.items; bases = c.self.inside.bases.items; needs = c.self.inside.needs.items } in
    let t = taken (goal.at.returns-clause-next c).After-reach_of-to in
    rw (← c.self.view_is)
    (next-is c.args.network.now t.arcs w t.can (heap_items c.self.inside.turns) c.self.invariant.0 c.in_ok-turn.turn (heap_items c.pop.new.self) t.moved t.greatest c.reach_of-to.result t.reach)

pub returns-clause-still : goal.returns-clause-still
returns-clause-still c =
    let w : OrderView = record { dest = c.self.inside.dest; fronts = c.self.inside.fronts.items; bases = c.self.inside.bases.items; needs = c.self.inside.needs.items } in
    let t = taken (goal.at.returns-clause-still c).After-reach_of-to in
    let there : CanBeMet c.args.network.now (with_front w c.in_ok-turn.turn.node c.reach_of-to.result) =
    next-can c.args.network.now t.arcs w t.can (heap_items c.self.inside.turns) c.self.invariant.0 c.in_ok-turn.turn (heap_items c.pop.new.self) t.moved c.reach_of-to.result t.more t.reach.need in
    let there' : CanBeMet c.args.network.now (record { dest = w.dest; fronts = set w.fronts (c.get.result - 1) c.reach_of-to.result; bases = w.bases; needs = w.needs }) =
    subst (λ (k : ℕ). CanBeMet c.args.network.now (record { dest = w.dest; fronts = set w.fronts (k - 1) c.reach_of-to.result; bases = w.bases; needs = w.needs })) (sym c.get.ensures) there in
    elim c.if-to-need.branch [
      | then-to-need b ↦ rw b.self-is there'
      | else-to-need b ↦ rw b.self-is there'
    ]
