use Rattle.std.proofs.Common.{◌≡◌, ◌++◌, take}
use Rattle.std.specs.List.{flat_map}
use Rattle.sota_polfile.specs.BracketFile.{spelled_bracket_head, spelled_bracket_row}
use Rattle.sota_polfile.proofs.bracket_writing.write_bracket.Given as goal

abbrev pub invariant-loop-row : goal.invariant-loop-row
invariant-loop-row l = l.out.items ≡ spelled_bracket_head l.table.head ++ flat_map spelled_bracket_row (take l.row-index l.rows)
