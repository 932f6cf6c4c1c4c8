use Rattle.std.proofs.Common.{ℕ, ◌<◌, length}
use Rattle.sota_period.specs.Periods.{start_at}
use Rattle.sota_period.proofs.timed.Timed.find_period.Given as goal

abbrev pub invariant-loop-place : goal.invariant-loop-place
invariant-loop-place l = record {
  within : l.place < length l.self;
  last : (k : ℕ) → l.place < k → k < length l.self → l.clock < start_at l.self k;
}

abbrev pub decreases-loop-place : goal.decreases-loop-place
decreases-loop-place l = l.place
