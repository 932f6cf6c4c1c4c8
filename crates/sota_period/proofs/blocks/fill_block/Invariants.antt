use Rattle.std.proofs.Common.{ℕ, ◌+◌, ◌<◌, ◌≤◌, min, length, slice_index}
use Rattle.sota_period.specs.Rows.{AreRows, asked_need, timed_row}
use Rattle.sota_period.specs.Broad.{AreSummers}
use Rattle.sota_period.proofs.blocks.fill_block.Given as goal

abbrev pub invariant-loop-node : goal.invariant-loop-node
invariant-loop-node g l = record {
  rows : AreRows l.block.ask.now l.block.from l.rows;
  summers : AreSummers g.Z.Summer.state l.rows l.block.network.now l.block.from l.workspace l.broad;
  done : (k : ℕ) → k < l.node-index → min (l.block.from + l.block.count) (asked_need l.block.ask.now (slice_index l.block.ask.now.visited.now k)) ≤ length (timed_row l.rows (slice_index l.block.ask.now.visited.now k));
}
