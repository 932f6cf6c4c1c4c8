use Rattle.std.proofs.Common.{arith}
use Rattle.sota_histcsv.proofs.Repeating.{least_none, least_more, least_end}
use Rattle.sota_histcsv.proofs.repeats.least_repeat.Goals as goal

pub loop-index-init : goal.loop-index-init
loop-index-init c = record { least = least_none c.args.sorted.now; close = omega arith }

pub loop-index-preserved : goal.loop-index-preserved
loop-index-preserved c = record {
  least = rw c.lesser_if-least.ensures
      (least_more c.args.sorted.now c.loop-index.index c.loop-index.least _ _ c.loop-index.auto.index c.loop-index-test.true c.index-sorted-index.is c.index-sorted-index-in-loop-index.is c.loop-index.invariant.least);
  close = omega arith;
}

pub returns : goal.returns
returns c = least_end c.args.sorted.now c.loop-index.index c.loop-index.least c.loop-index-test.false c.loop-index.auto.index-end c.loop-index.invariant.close c.loop-index.invariant.least
