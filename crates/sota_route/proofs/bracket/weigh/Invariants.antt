use Rattle.std.proofs.Common.{ℕ, ◌≡◌, ◌<◌, ◌≤◌, length, slice_index}
use Rattle.sota_network.specs.Grid.{weighed}
use Rattle.sota_sums.specs.Bounds.{rounded_in}
use Rattle.sota_route.proofs.bracket.weigh.Given as goal

abbrev pub invariant-loop-end : goal.invariant-loop-end
invariant-loop-end l = record {
  length_is : length l.values ≡ length l.fn.values;
  within : l.end ≤ length l.fn.values;
  before : (u : ℕ) → u < l.end → slice_index l.values u ≡ slice_index l.fn.values u;
  after : (u : ℕ) → l.end ≤ u → u < length l.fn.values → slice_index l.values u
      ≡ rounded_in l.bound l.scale (weighed (λ x. slice_index l.fn.values x) u l.time);
}

abbrev pub decreases-loop-end : goal.decreases-loop-end
decreases-loop-end l = l.end
