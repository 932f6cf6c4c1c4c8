use Rattle.std.proofs.Common.{◌+◌, length, arith}
use Rattle.sota_block.specs.Product.{coefficient}
use Rattle.sota_block.proofs.Crossed.{near_is, far_is}
use Rattle.sota_block.proofs.Filled.{filled_more}
use Rattle.sota_block.proofs.wide.multiply_wide.Goals as goal

pub loop-k-preserved : goal.loop-k-preserved
loop-k-preserved g c =
    let xs = c.args.kernel.now in
    let ys = c.args.values.now in
    let k = c.loop-k.k in
    let masses = c.split_at.ensures in
    let values = c.split_at-in-loop-k.ensures in
    let near = near_is xs ys _ _ k _ masses.front values.front (omega arith) c.crossed.ensures.value in
    let far = far_is xs ys _ _ k _ masses.back values.back c.requires.same_length (omega arith) c.crossed-in-loop-k.ensures.value in
    record {
      low = filled_more (coefficient xs ys) c.loop-k.low k _ (omega arith) near c.loop-k.invariant.low;
      high = filled_more (λ j. coefficient xs ys (length xs + j)) c.loop-k.high k _ (omega arith) far c.loop-k.invariant.high;
      counted = omega arith;
    }
