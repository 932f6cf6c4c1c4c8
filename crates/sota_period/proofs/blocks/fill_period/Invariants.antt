use Rattle.std.proofs.Common.{◌-◌, ◌≤◌}
use Rattle.sota_period.specs.Rows.{AreRows}
use Rattle.sota_period.specs.Broad.{AreSummers}
use Rattle.sota_period.proofs.blocks.fill_period.Given as goal

abbrev pub invariant-loop-at : goal.invariant-loop-at
invariant-loop-at g l = record {
  low : l.from ≤ l.at;
  high : l.at ≤ l.to;
  rows : AreRows l.ask l.at l.rows;
  summers : AreSummers g.Z.Summer.state l.rows l.network l.at l.workspace l.broad;
}

abbrev pub decreases-loop-at : goal.decreases-loop-at
decreases-loop-at g l = l.to - l.at
