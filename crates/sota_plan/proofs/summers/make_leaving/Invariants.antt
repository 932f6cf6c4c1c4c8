use Rattle.sota_plan.proofs.Making.{MadeSome}
use Rattle.sota_plan.proofs.summers.make_leaving.Given as goal

abbrev pub invariant-loop-number : goal.invariant-loop-number
invariant-loop-number g l = MadeSome g.Z.Summer.state l.network l.tables l.region l.fn.node l.number-items l.number-index l.fn.broad l.broad l.places
