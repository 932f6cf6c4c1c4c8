use Rattle.std.proofs.Common.{ℕ, ◌+◌, ◌-◌, ◌<◌, ◌≤◌}
use Rattle.sota_quantile.specs.Bounds.{bound_in}
use Rattle.sota_quantile.proofs.search.find_least.Given as goal

-- no budget below `from` is enough, and each from `to` on is
abbrev pub invariant-loop-from : goal.invariant-loop-from
invariant-loop-from l = record {
  order : l.from ≤ l.to;
  most : l.to ≤ l.most + 1;
  low : (t : ℕ) → t < l.from → bound_in l.bound l.tables l.node t < l.confidence;
  high : (t : ℕ) → l.to ≤ t → t ≤ l.most → l.confidence ≤ bound_in l.bound l.tables l.node t;
}

abbrev pub decreases-loop-from : goal.decreases-loop-from
decreases-loop-from l = l.to - l.from
