use Rattle.std.proofs.Common.{◌≡◌, length}
use Rattle.sota_tables.specs.Views.{table_at}
use Rattle.sota_plan.proofs.Extends.{AllSummed, left_of}
use Rattle.sota_plan.proofs.Extending.{Going}
use Rattle.sota_plan.proofs.extension.extend_all.Given as goal

abbrev pub invariant-loop-extent : goal.invariant-loop-extent
invariant-loop-extent g l = record {
  going : Going l.network l.region.dest l.fn.order l.order l.fn.tables l.tables l.fn.pushes l.pushes;
  same_length : length l.broad ≡ length l.fn.broad;
  work : l.workspace ≡ l.fn.workspace;
  sums : AllSummed g.Z.Summer.state l.network l.region l.fn.tables l.tables l.broad;
}

abbrev pub decreases-loop-extent : goal.decreases-loop-extent
decreases-loop-extent g l = left_of l.network.nodes l.fn.order.needs (table_at l.tables)
