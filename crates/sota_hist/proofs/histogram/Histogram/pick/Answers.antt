use Rattle.std.proofs.Common.{◌∙◌, sym, arith}
use Rattle.sota_hist.proofs.Picking.{pick_here, pick_whole, pick_end}
use Rattle.sota_hist.proofs.histogram.Histogram.pick.Goals as goal

pub returns-then-sum-from-clause-value : goal.returns-then-sum-from-clause-value
returns-then-sum-from-clause-value c =
    (pick_whole c.args.draw c.pairs-pair-items.result.now c.args.self.now _ c.pairs-pair-items.ensures.valid c.pairs-pair-items.ensures.value
    (sym (pick_here c.args.draw c.loop-pair.sum c.loop-pair.pair-index c.pairs-pair-items.result.now c.pair-item.result c.loop-pair-test.true c.pair-item.is (omega arith)) ∙ c.loop-pair.invariant.rest)).0

pub returns-then-sum-from-clause-none : goal.returns-then-sum-from-clause-none
returns-then-sum-from-clause-none c =
    (pick_whole c.args.draw c.pairs-pair-items.result.now c.args.self.now _ c.pairs-pair-items.ensures.valid c.pairs-pair-items.ensures.value
    (sym (pick_here c.args.draw c.loop-pair.sum c.loop-pair.pair-index c.pairs-pair-items.result.now c.pair-item.result c.loop-pair-test.true c.pair-item.is (omega arith)) ∙ c.loop-pair.invariant.rest)).1

pub returns-clause-value : goal.returns-clause-value
returns-clause-value c =
    (pick_whole c.args.draw c.pairs-pair-items.result.now c.args.self.now _ c.pairs-pair-items.ensures.valid c.pairs-pair-items.ensures.value
    (pick_end c.args.draw c.loop-pair.sum c.loop-pair.pair-index c.pairs-pair-items.result.now c.loop-pair-test.false c.loop-pair.invariant.rest)).0

pub returns-clause-none : goal.returns-clause-none
returns-clause-none c =
    (pick_whole c.args.draw c.pairs-pair-items.result.now c.args.self.now _ c.pairs-pair-items.ensures.valid c.pairs-pair-items.ensures.value
    (pick_end c.args.draw c.loop-pair.sum c.loop-pair.pair-index c.pairs-pair-items.result.now c.loop-pair-test.false c.loop-pair.invariant.rest)).1
