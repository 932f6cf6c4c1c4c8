use Rattle.std.proofs.Common.{◌≡◌, ◌+◌, ◌-◌, ◌≤◌, length, take}
use Rattle.sota_online.specs.Summer.{fed_all}
use Rattle.sota_online.specs.Squares.{feeds_count}
use Rattle.sota_online.proofs.block.BlockSummerSummer.feed_all.Given as goal

abbrev pub invariant-loop-done : goal.invariant-loop-done
invariant-loop-done g l = record {
  within : l.done ≤ length l.values;
  state : l.self ≡ fed_all (take l.done l.values) l.fn.self;
  work : l.workspace ≡ l.fn.workspace;
  counted : l.products ≤ l.fn.products + feeds_count (length l.fn.self.kernel) (length l.fn.self.values) l.done;
}

abbrev pub decreases-loop-done : goal.decreases-loop-done
decreases-loop-done g l = length l.values - l.done
