use Rattle.std.proofs.Common.{rules, ℕ, ◌≡◌, ◌+◌, length, get_or, refl, sym, ◌∙◌, subst, arith, heap_items}
use Rattle.sota_order.specs.Orders.{OrderView, order_end, need_at}
use Rattle.sota_order.specs.Queue.{AreTurns}
use Rattle.sota_order.proofs.Turning.{turns-skip, turns-more, end-place, need-place}
use Rattle.sota_order.proofs.order.Order.new.Goals.{then-end-needs+in_ok-push, else-end-needs}
use Rattle.sota_order.proofs.order.Order.new.Goals as goal

pub loop-index-preserved : goal.loop-index-preserved
loop-index-preserved c =
    let w : OrderView = record { dest = c.args.dest; fronts = c.args.fronts.now; bases = c.args.bases.now; needs = c.args.needs.now } in
    let k : ℕ = c.loop-index.index in
    let end : order_end w (k + 1) ≡ c.max-end.result = end-place w k ∙ sym c.max-end.ensures in
    let need : need_at w (k + 1) ≡ get_or c.args.needs.now k 0 = need-place w k in
    elim c.if-end-needs.branch [
      | then-end-needs+in_ok-push b ↦ rw b.turns-is (record {
        turns = turns-more w k (heap_items c.loop-index.turns) (heap_items b.push.new.self) (record { end = record { 0 = c.max-end.result }; node = k + 1 }) c.loop-index.invariant.turns refl (omega (arith, c.loop-index-test.true)) (sym end) (omega (arith, end, need, b.if-end-needs.true)) b.in_ok-push.ensures.permutation;
        order = b.in_ok-push.ensures.heap_order c.loop-index.invariant.order;
        within = omega (arith, c.loop-index-test.true);
        few = omega (arith, b.in_ok-push.ensures.len, c.loop-index.invariant.few);
        room = omega (arith, b.in_ok-push.ensures.capacity, c.loop-index.invariant.room);
      })
      | else-end-needs b ↦ rw b.turns-is (record {
        turns = turns-skip w k (heap_items c.loop-index.turns) c.loop-index.invariant.turns (omega (arith, end, need, b.if-end-needs.false));
        order = c.loop-index.invariant.order;
        within = omega (arith, c.loop-index-test.true);
        few = omega (arith, c.loop-index.invariant.few);
        room = c.loop-index.invariant.room;
      })
    ]

pub invariant_of-result : goal.invariant_of-result
invariant_of-result c =
    let fronts : c.in_ok-to_vec.field-0.items ≡ c.args.fronts.now = c.in_ok-to_vec.ensures.items_if_clones_equal (λ y e. search rules) in
    let bases : c.in_ok-to_vec-2.field-0.items ≡ c.args.bases.now = c.in_ok-to_vec-2.ensures.items_if_clones_equal (λ y e. search rules) in
    let needs : c.in_ok-to_vec-3.field-0.items ≡ c.args.needs.now = c.in_ok-to_vec-3.ensures.items_if_clones_equal (λ y e. search rules) in
    let whole : c.loop-index.index ≡ length c.args.needs.now = omega (arith, c.loop-index-test.false, c.loop-index.invariant.within) in
    let w : OrderView = record { dest = c.args.dest; fronts = c.args.fronts.now; bases = c.args.bases.now; needs = c.args.needs.now } in
    rw (fronts, bases, needs)
    (subst (λ (n : ℕ). AreTurns w n (heap_items c.loop-index.turns)) whole c.loop-index.invariant.turns, c.loop-index.invariant.order, omega (arith, whole, c.loop-index.invariant.few, c.loop-index.invariant.room))
