use Rattle.std.proofs.Common.{◌≤◌, take}
use Rattle.sota_period.specs.Rows.{TakesAtLeast}
use Rattle.sota_period.proofs.blocks.block_of.Given as goal

abbrev pub invariant-loop-arc : goal.invariant-loop-arc
invariant-loop-arc l = record {
  positive : 1 ≤ l.block;
  within : l.block ≤ 64;
  takes : TakesAtLeast l.block (take l.arc-index l.arc-items);
}
