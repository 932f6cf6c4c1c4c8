use Rattle.std.proofs.Common.{ℕ, ◌≡◌, ◌<◌, ◌≤◌, false, Some, IfSome}
use Rattle.sota_hist.specs.Time.{is_closed, least_tick}
use Rattle.sota_network.specs.Network.{arc_at}
use Rattle.sota_network.specs.declared.network.Arc.{Arc}
use Rattle.sota_period.specs.Periods.{period_at}
use Rattle.sota_period.specs.Needs.{IsBy}
use Rattle.sota_period.proofs.needs.quickest_tick.Given as goal

abbrev pub invariant-loop-period : goal.invariant-loop-period
invariant-loop-period l = record {
  least : (k : ℕ) (arc : Arc) → k < l.period-index → arc_at (period_at l.periods k) l.number ≡ Some arc → is_closed arc.time ≡ false → IsBy l.tick (least_tick arc.time);
  positive : IfSome l.tick (λ tick. 1 ≤ tick);
}
