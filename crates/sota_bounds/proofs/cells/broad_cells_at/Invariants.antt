use Rattle.std.proofs.Common.{◌≡◌, ◌*◌, ◌≤◌, take}
use Rattle.std.specs.List.{sum_by}
use Rattle.sota_network.specs.Network.{arc_at}
use Rattle.sota_bounds.proofs.Leaving.{broad_if}
use Rattle.sota_bounds.proofs.cells.broad_cells_at.Given as goal

abbrev pub invariant-loop-number : goal.invariant-loop-number
invariant-loop-number l = record {
  value : l.cells ≡ sum_by (λ e. broad_if l.budget l.pairs (arc_at l.network e)) (take l.number-index l.number-items);
  within : l.cells ≤ l.number-index * 131072;
}
