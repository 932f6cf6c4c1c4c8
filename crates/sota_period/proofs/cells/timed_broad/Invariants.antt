use Rattle.std.proofs.Common.{◌≡◌, ◌+◌, ◌*◌, ◌≤◌, take}
use Rattle.std.specs.List.{sum_by}
use Rattle.sota_network.specs.Region.{broad_at}
use Rattle.sota_period.proofs.cells.timed_broad.Given as goal

abbrev pub invariant-loop-period : goal.invariant-loop-period
invariant-loop-period l = record {
  value : l.cells ≡ sum_by (λ p. sum_by (broad_at l.budget (l.budget + 1)) p.1.arcs) (take l.period-index l.periods);
  within : l.cells ≤ l.period-index * (4000000 * 131072);
}
