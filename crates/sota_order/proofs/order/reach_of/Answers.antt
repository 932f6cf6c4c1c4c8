use Rattle.std.proofs.Common.{ℕ, ◌≡◌, ◌==◌, ◌+◌, min, Option, None, Some, sym, ◌∙◌, subst, arith}
use Rattle.sota_network.specs.declared.network.Arc.{Arc}
use Rattle.sota_order.specs.Orders.{bound_of}
use Rattle.sota_order.proofs.Reaching.{Reached, lessened, leaves, reached-more, reached-all}
use Rattle.sota_order.proofs.order.reach_of.Goals.{in-Some, in_default}
use Rattle.sota_order.proofs.order.reach_of.Goals as goal

pub loop-number-preserved : goal.loop-number-preserved
loop-number-preserved c =
    let arc : Arc = c.numbered-arc.result.now in
    let bound : Arc → Option ℕ = bound_of c.args.dest c.args.fronts.now c.args.bases.now in
    let tail : arc.tail ≡ c.args.node =
    leaves c.args.network.now c.args.node c.leaving-number-items.result.now c.loop-number.number-index c.number-item.result arc (c.numbers_of_arcs.ensures.only c.args.network.now (λ a. a.tail == c.args.node))
    c.leaving-number-items.ensures.value c.loop-number-test.true c.number-item.is c.numbered-arc.ensures.value in
    let more : Reached c.args.network.now bound c.args.node c.args.need c.leaving-number-items.result.now (c.loop-number.number-index + 1) (lessened (bound arc) c.loop-number.to) =
    reached-more c.args.network.now bound c.args.node c.args.need c.leaving-number-items.result.now c.loop-number.number-index c.number-item.result c.loop-number.to arc
    c.loop-number.invariant c.loop-number-test.true c.number-item.is c.numbered-arc.ensures.value tail in
    let step : (found : Option ℕ) → found ≡ bound arc → Reached c.args.network.now bound c.args.node c.args.need c.leaving-number-items.result.now (c.loop-number.number-index + 1) (lessened found c.loop-number.to) =
    λ found same. rw same more in
    elim c.match-bound_of.branch [
      | in-Some w ↦
          let least : min w.in-Some.bound c.loop-number.to ≡ w.min-to.result = omega (arith, w.min-to.ensures, w.from.ensures) in
          rw w.to-is
          (subst (Reached c.args.network.now bound c.args.node c.args.need c.leaving-number-items.result.now (c.loop-number.number-index + 1)) least
          (step (Some w.in-Some.bound) (sym w.in-Some.is ∙ c.bound_of.ensures)))
      | in_default w ↦ rw w.to-is (step None (sym w.in_default.is ∙ c.bound_of.ensures))
    ]

pub returns-clause-reach : goal.returns-clause-reach
returns-clause-reach c = λ w at-dest at-fronts at-bases at-need.
    reached-all c.args.network.now c.args.dest c.args.fronts.now c.args.bases.now c.args.node c.args.need c.leaving-number-items.result.now c.loop-number.number-index c.loop-number.to c.loop-number.invariant
    c.loop-number-test.false c.leaving-number-items.ensures.value (c.numbers_of_arcs.ensures.all c.args.network.now (λ a. a.tail == c.args.node)) w at-dest at-fronts at-bases at-need
