use Rattle.std.proofs.Common.{◌≡◌, ◌++◌, take}
use Rattle.std.specs.List.{flat_map}
use Rattle.sota_polfile.specs.BracketFile.{spelled_bracket_entry}
use Rattle.sota_polfile.proofs.bracket_writing.put_row.Given as goal

abbrev pub invariant-loop-entry : goal.invariant-loop-entry
invariant-loop-entry l = l.out.items ≡ l.initial.out.items ++ flat_map spelled_bracket_entry (take l.entry-index l.entry-items)
