use Rattle.std.proofs.Common.{◌≡◌, ◌++◌, take}
use Rattle.std.specs.List.{flat_map}
use Rattle.sota_polfile.specs.Spelling.{spelled_entry}
use Rattle.sota_polfile.proofs.writing.put_row.Given as goal

abbrev pub invariant-loop-entry : goal.invariant-loop-entry
invariant-loop-entry l = l.out.items ≡ l.initial.out.items ++ flat_map spelled_entry (take l.entry-index l.entry-items)
