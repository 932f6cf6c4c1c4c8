use Rattle.std.proofs.Common.{◌+◌, ◌-◌, ◌≤◌}
use Rattle.sota_period.specs.Rows.{AreRows}
use Rattle.sota_period.proofs.plan.fill_budgets.Given as goal

abbrev pub invariant-loop-from : goal.invariant-loop-from
invariant-loop-from g l = record {
  within : l.from ≤ l.ask.budget + 1;
  rows : AreRows l.ask l.from l.rows;
}

abbrev pub decreases-loop-from : goal.decreases-loop-from
decreases-loop-from g l = l.ask.budget + 1 - l.from
