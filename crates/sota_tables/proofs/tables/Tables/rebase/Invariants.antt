use Rattle.std.proofs.Common.{◌≡◌, ◌-◌, slice_index}
use Rattle.sota_kept.specs.NodeTables.{rebased_table}
use Rattle.sota_tables.proofs.Viewing.{Done}
use Rattle.sota_tables.proofs.tables.Tables.rebase.Given as goal

abbrev pub invariant-loop-index : goal.invariant-loop-index
invariant-loop-index l = record {
  dest : l.self.dest ≡ l.fn.self.dest;
  done : Done (λ i s. rebased_table (slice_index l.fn.bases (i - 1)) s) l.index l.fn.self l.self;
}
