use Rattle.std.proofs.Common.{ℕ, ◌≡◌, ◌<◌, false, get_or, Some}
use Rattle.sota_network.specs.Network.{arc_at}
use Rattle.sota_network.specs.declared.network.Arc.{Arc}
use Rattle.sota_check.specs.Bracketed.{upper}
use Rattle.sota_check.specs.BracketRejected.{exceeds}
use Rattle.sota_check.proofs.judge_bracket.is_exceeded.Given as goal

abbrev pub invariant-loop-number : goal.invariant-loop-number
invariant-loop-number l = (j d : ℕ) (arc : Arc) → j < l.number-index → arc_at l.network (get_or l.number-items j d) ≡ Some arc → exceeds (upper l.table) l.node l.budget l.most arc ≡ false
