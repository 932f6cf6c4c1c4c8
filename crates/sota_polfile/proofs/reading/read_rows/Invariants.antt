use Rattle.std.proofs.Common.{◌≡◌, ◌-◌, ◌≤◌, length}
use Rattle.sota_polfile.specs.Places.{start, node_before, rows_at}
use Rattle.sota_polfile.specs.Faults.{file_rows_fault}
use Rattle.sota_polfile.proofs.reading.read_rows.Given as goal

abbrev pub invariant-loop-k : goal.invariant-loop-k
invariant-loop-k l = record {
  at : l.at ≡ start l.bytes l.k;
  within : l.at ≤ length l.bytes;
  rows : l.rows.items ≡ rows_at l.bytes 0 l.k;
  before : l.before ≡ node_before l.bytes l.k;
  so_far : file_rows_fault l.bytes l.k (l.count - l.k) ≡ file_rows_fault l.bytes 0 l.count;
}
