use Rattle.std.proofs.Common.{◌≡◌, ◌-◌, map}
use Rattle.std.specs.List.{range_with_len}
use Rattle.sota_session.proofs.entries.entries_of.Given as goal

abbrev pub invariant-loop-budget : goal.invariant-loop-budget
invariant-loop-budget g l =
    l.entries.items ≡ map (g.E.TableEntry.entry_in l.tables l.node) (range_with_len l.first (l.budget - l.first))
