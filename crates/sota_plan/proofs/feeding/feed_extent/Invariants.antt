use Rattle.std.proofs.Common.{◌≡◌}
use Rattle.sota_plan.proofs.SumGoing.{FedSome}
use Rattle.sota_plan.proofs.feeding.feed_extent.Given as goal

abbrev pub invariant-loop-number : goal.invariant-loop-number
invariant-loop-number g l = record {
  fed : FedSome g.Z.Summer.state l.target.network.now l.target.dest l.fn.node l.to l.number-items l.number-index l.fn.broad l.broad;
  work : l.workspace ≡ l.fn.workspace;
}
