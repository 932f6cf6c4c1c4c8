use Rattle.std.proofs.Common.{◌≡◌, ◌+◌, drop}
use Rattle.sota_check.specs.Rejected.{first_cause}
use Rattle.sota_check.specs.BracketRejected.{bracket_row_rejection}
use Rattle.sota_check.proofs.judge_bracket.first_fault.Given as goal

abbrev pub invariant-loop-index : goal.invariant-loop-index
invariant-loop-index l = first_cause (bracket_row_rejection l.network l.table) (1 + l.index) (drop l.index l.row-items) ≡ first_cause (bracket_row_rejection l.network l.table) 1 l.row-items
