use Rattle.std.proofs.Common.{◌≡◌, Some}
use Rattle.sota_kept.specs.NodeTables.{cut_to}
use Rattle.sota_tables.proofs.Viewing.{Done}
use Rattle.sota_tables.proofs.tables.Tables.start.Given as goal

abbrev pub invariant-loop-index : goal.invariant-loop-index
invariant-loop-index l = record {
  dest : l.self.dest ≡ Some l.fn.dest;
  done : Done (λ i s. cut_to 0 s) l.index l.fn.self l.self;
}
