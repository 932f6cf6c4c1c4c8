use Rattle.std.proofs.Common.{◌≡◌}
use Rattle.sota_network.specs.Numbers.{listed}
use Rattle.sota_bounds.specs.Cells.{need_by_times}
use Rattle.sota_bounds.proofs.cells.needs_of.Given as goal

abbrev pub invariant-loop-index : goal.invariant-loop-index
invariant-loop-index l = l.needs.items ≡ listed (need_by_times l.dest l.budget l.least l.from) l.index
