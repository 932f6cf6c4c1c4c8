use Rattle.std.proofs.Common.{◌≡◌, ◌*◌, ◌≤◌}
use Rattle.sota_bounds.specs.Cells.{table_cells_by_lists}
use Rattle.sota_bounds.proofs.cells.table_cells_of.Given as goal

abbrev pub invariant-loop-index : goal.invariant-loop-index
invariant-loop-index l = record { value : l.cells ≡ table_cells_by_lists l.least l.needs l.index; within : l.cells ≤ l.index * 65536 }
