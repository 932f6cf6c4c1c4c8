use Rattle.sota_session.proofs.Cutting.{AreCut}
use Rattle.sota_session.proofs.cut.cut_all.Given as goal

abbrev pub invariant-loop-index : goal.invariant-loop-index
invariant-loop-index l = AreCut l.budgets l.index l.fn.tables l.tables
