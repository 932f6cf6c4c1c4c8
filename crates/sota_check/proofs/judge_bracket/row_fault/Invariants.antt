use Rattle.std.proofs.Common.{◌≡◌, ◌+◌, drop}
use Rattle.sota_check.specs.Rejected.{first_cause}
use Rattle.sota_check.specs.BracketRejected.{bracket_entry_fault}
use Rattle.sota_check.proofs.judge_bracket.row_fault.Given as goal

abbrev pub invariant-loop-index : goal.invariant-loop-index
invariant-loop-index l = first_cause (bracket_entry_fault l.network l.table l.node) (l.row.first + l.index) (drop l.index l.entry-items) ≡ first_cause (bracket_entry_fault l.network l.table l.node) l.row.first l.entry-items
