use Rattle.std.proofs.Common.{◌≡◌}
use Rattle.sota_online.proofs.tests.sums_of.Given as goal

abbrev pub invariant-loop-value : goal.invariant-loop-value
invariant-loop-value g l = (g.S.Summer.state l.summer).start ≡ l.start
