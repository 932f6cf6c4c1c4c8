use Rattle.std.proofs.Common.{◌≡◌, ◌-◌, All}
use Rattle.std.specs.List.{filter_map, range_with_len}
use Rattle.sota_polfile.specs.Entry.{IsEntry}
use Rattle.sota_session.specs.Rows.{row_in}
use Rattle.sota_session.proofs.policy.rows_of.Given as goal

abbrev pub invariant-loop-node : goal.invariant-loop-node
invariant-loop-node l = record {
  made : l.rows.items ≡ filter_map (row_in l.region l.tables) (range_with_len 1 (l.node - 1));
  valid : All (λ row. All IsEntry row.entries) l.rows.items;
}
