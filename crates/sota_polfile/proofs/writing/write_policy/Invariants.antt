use Rattle.std.proofs.Common.{◌≡◌, ◌++◌, length, take}
use Rattle.std.specs.List.{flat_map}
use Rattle.sota_polfile.specs.Spelling.{spelled_head, spelled_row}
use Rattle.sota_polfile.proofs.writing.write_policy.Given as goal

abbrev pub invariant-loop-row : goal.invariant-loop-row
invariant-loop-row l = l.out.items ≡ spelled_head l.table.head (length l.rows) ++ flat_map spelled_row (take l.row-index l.rows)
