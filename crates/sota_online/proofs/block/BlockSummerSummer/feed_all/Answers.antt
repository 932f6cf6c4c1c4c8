use Rattle.std.proofs.Common.{◌≡◌, ◌≤◌, ℕ, ◌+◌, List, length, length-drop, ap, ◌∙◌, arith}
use Rattle.sota_online.specs.Summer.{SummerState}
use Rattle.sota_online.proofs.Counts.{feeds_more}
use Rattle.sota_online.proofs.Putting.{feed-more, fed-length}
use Rattle.sota_online.proofs.block.BlockSummerSummer.feed_all.Goals as goal

pub loop-done-preserved : goal.loop-done-preserved
loop-done-preserved g c =
    let values : List ℕ = c.args.values.now in
    let done : ℕ = c.loop-done.done in
    let n : ℕ = c.feed_some-done.result in
    let old = c.args.self.now in
    let within : done + n ≤ length values = omega (arith, length-drop done values, c.feed_some-done.ensures.within) in
    let state = feed-more values done n old c.loop-done.self c.feed_some-done.new.self c.loop-done.invariant.state c.feed_some-done.ensures.state in
    let kernel : length c.loop-done.self.kernel ≡ length old.kernel = ap (λ (s : SummerState). length s.kernel) c.loop-done.invariant.state in
    record {
      within = within;
      state = state;
      work = c.feed_some-done.ensures.work ∙ c.loop-done.invariant.work;
      counted = feeds_more (length old.kernel) (length c.loop-done.self.kernel) (length old.values) done n (length c.feed_some-done.new.self.values) c.args.products.now c.loop-done.products c.feed_some-done.new.products
          c.feed_some-done.ensures.some kernel (omega (arith, fed-length values (done + n) old c.feed_some-done.new.self state within)) c.loop-done.invariant.counted c.feed_some-done.ensures.count;
    }
