use Rattle.sota_bounds.proofs.Adding.{IsAdded}
use Rattle.sota_bounds.proofs.edits.with_onward.Given as goal

abbrev pub invariant-loop-index : goal.invariant-loop-index
invariant-loop-index l = IsAdded l.dest l.arc l.first l.onward l.index l.fn.times.items l.times.items
