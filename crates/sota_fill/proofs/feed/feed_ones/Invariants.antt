use Rattle.std.proofs.Common.{ℕ, ◌-◌}
use Rattle.sota_units.specs.Rounding.{ONE}
use Rattle.sota_fill.proofs.FedTo.{FedTo}
use Rattle.sota_fill.proofs.feed.feed_ones.Given as goal

abbrev pub invariant-loop-fed : goal.invariant-loop-fed
invariant-loop-fed g l = FedTo (g.Z.Summer.state l.fn.summer) (g.Z.Summer.state l.summer) l.count l.fed (λ (a : ℕ). ONE) l.fn.workspace l.workspace

abbrev pub decreases-loop-fed : goal.decreases-loop-fed
decreases-loop-fed g l = l.count - l.fed
