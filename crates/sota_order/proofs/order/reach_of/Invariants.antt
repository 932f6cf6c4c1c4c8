use Rattle.sota_order.specs.Orders.{bound_of}
use Rattle.sota_order.proofs.Reaching.{Reached}
use Rattle.sota_order.proofs.order.reach_of.Given as goal

abbrev pub invariant-loop-number : goal.invariant-loop-number
invariant-loop-number l = Reached l.network (bound_of l.dest l.fronts l.bases) l.fn.node l.need l.number-items l.number-index l.to
