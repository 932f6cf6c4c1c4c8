use Rattle.sota_plan.proofs.Making.{MadeUpTo}
use Rattle.sota_plan.proofs.summers.make_summers.Given as goal

abbrev pub invariant-loop-index : goal.invariant-loop-index
invariant-loop-index g l = MadeUpTo g.Z.Summer.state l.network l.tables l.region l.index l.broad l.places
