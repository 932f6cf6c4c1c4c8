use Rattle.std.proofs.Common.{◌≡◌, ◌-◌, ◌≤◌, length}
use Rattle.sota_polfile.specs.BracketFile.{bracket_start, bracket_rows_at, bracket_file_rows_fault}
use Rattle.sota_polfile.proofs.bracket_reading.read_rows.Given as goal

abbrev pub invariant-loop-k : goal.invariant-loop-k
invariant-loop-k l = record {
  at : l.at ≡ bracket_start l.bytes l.k;
  within : l.at ≤ length l.bytes;
  rows : l.rows.items ≡ bracket_rows_at l.bytes 0 l.k;
  so_far : bracket_file_rows_fault l.bytes l.k (l.head.nodes - l.k) ≡ bracket_file_rows_fault l.bytes 0 l.head.nodes;
}
