use Rattle.std.proofs.Common.{◌≡◌, ◌*◌, ◌≤◌}
use Rattle.sota_bounds.proofs.Leaving.{broad_up_to}
use Rattle.sota_bounds.proofs.cells.broad_cells_of.Given as goal

abbrev pub invariant-loop-index : goal.invariant-loop-index
invariant-loop-index l = record {
  value : l.cells ≡ broad_up_to l.budget l.least l.needs l.index l.network.arcs;
  within : l.cells ≤ l.index * 524288000000;
}
