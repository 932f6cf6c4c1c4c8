use Rattle.std.proofs.Common.{ℕ, ◌<◌, ◌≤◌, slice_index}
use Rattle.sota_units.specs.Rounding.{ONE}
use Rattle.sota_online.specs.Summer.{IsPut}
use Rattle.sota_online.proofs.values.put.Given as goal

abbrev pub invariant-loop-k : goal.invariant-loop-k
invariant-loop-k l = record {
  put : IsPut l.fn.into l.into l.at l.k (λ k. slice_index l.values k);
  small : (k : ℕ) → k < l.k → slice_index l.values k ≤ ONE;
}
