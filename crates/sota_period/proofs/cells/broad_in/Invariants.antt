use Rattle.std.proofs.Common.{◌≡◌, ◌+◌, ◌*◌, ◌≤◌, take}
use Rattle.std.specs.List.{sum_by}
use Rattle.sota_network.specs.Region.{broad_at}
use Rattle.sota_period.proofs.cells.broad_in.Given as goal

abbrev pub invariant-loop-arc : goal.invariant-loop-arc
invariant-loop-arc l = record {
  value : l.cells ≡ sum_by (broad_at l.budget (l.budget + 1)) (take l.arc-index l.network.arcs);
  within : l.cells ≤ l.arc-index * 131072;
}
