use Rattle.std.proofs.Common.{◌≡◌, ◌+◌, ◌-◌, ◌*◌, ◌≤◌}
use Rattle.sota_kept.specs.NodeTables.{AreReady}
use Rattle.sota_tables.specs.Views.{table_at}
use Rattle.sota_fill.specs.Fills.{IsLonger}
use Rattle.sota_fill.proofs.fill.fill_extent.Given as goal

abbrev pub invariant-loop-budget : goal.invariant-loop-budget
invariant-loop-budget g l = record {
  low : l.from ≤ l.budget;
  high : l.budget ≤ l.to;
  ready : AreReady l.target.network.now l.target.dest (table_at l.tables);
  longer : IsLonger l.node (l.budget - l.from) l.fn.tables l.tables;
  count : l.pushes ≡ l.fn.pushes + 3 * (l.budget - l.from);
}

abbrev pub decreases-loop-budget : goal.decreases-loop-budget
decreases-loop-budget g l = l.to - l.budget
