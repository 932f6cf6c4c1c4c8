use Rattle.std.proofs.Common.{◌≡◌, ◌-◌, All, map}
use Rattle.std.specs.List.{range_with_len}
use Rattle.sota_polfile.specs.Entry.{IsBracketEntry}
use Rattle.sota_session.specs.Rows.{bracket_row_in}
use Rattle.sota_session.proofs.bracket.rows_of.Given as goal

abbrev pub invariant-loop-node : goal.invariant-loop-node
invariant-loop-node l = record {
  made : l.rows.items ≡ map (bracket_row_in l.region l.tables) (range_with_len 1 (l.node - 1));
  valid : All (λ row. All IsBracketEntry row.entries) l.rows.items;
}
