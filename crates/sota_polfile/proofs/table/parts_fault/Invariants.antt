use Rattle.std.proofs.Common.{◌≡◌, ◌+◌, ◌≤◌, take, drop, map, unwrap_or, None, All}
use Rattle.sota_polfile.specs.Entry.{IsEntry}
use Rattle.sota_polfile.specs.Table.{row_head}
use Rattle.sota_polfile.specs.Faults.{rows_fault}
use Rattle.sota_polfile.proofs.table.parts_fault.Given as goal

abbrev pub invariant-loop-row : goal.invariant-loop-row
invariant-loop-row l = record {
  number : l.number ≡ l.row-index + 1;
  so_far : rows_fault l.head l.before l.number (map row_head (drop l.row-index l.rows)) ≡ rows_fault l.head None 1 (map row_head l.rows);
  below : l.row-index ≤ unwrap_or l.before 0;
  within : unwrap_or l.before 0 ≤ l.head.nodes;
  entries : All (λ row. All IsEntry row.entries) (take l.row-index l.rows);
}
