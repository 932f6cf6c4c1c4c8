use Rattle.std.proofs.Common.{◌≡◌, ◌+◌, take, drop, All}
use Rattle.sota_polfile.specs.Entry.{IsBracketEntry}
use Rattle.sota_polfile.specs.BracketFile.{bracket_rows_fault}
use Rattle.sota_polfile.proofs.bracket_table.parts_fault.Given as goal

abbrev pub invariant-loop-row : goal.invariant-loop-row
invariant-loop-row l = record {
  node : l.node ≡ l.row-index + 1;
  so_far : bracket_rows_fault l.head l.node (drop l.row-index l.rows) ≡ bracket_rows_fault l.head 1 l.rows;
  entries : All (λ row. All IsBracketEntry row.entries) (take l.row-index l.rows);
}
