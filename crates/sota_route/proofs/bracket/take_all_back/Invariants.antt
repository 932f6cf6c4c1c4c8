use Rattle.std.proofs.Common.{ℕ, ◌≡◌, ◌<◌, ◌≤◌, length, slice_index, drop}
use Rattle.sota_sums.specs.Bounds.{rounded_in}
use Rattle.sota_route.specs.Bounds.{route_value}
use Rattle.sota_route.proofs.bracket.take_all_back.Given as goal

abbrev pub invariant-loop-left : goal.invariant-loop-left
invariant-loop-left l = record {
  length_is : length l.values ≡ length l.fn.values;
  within : l.left ≤ length l.route;
  values : (u : ℕ) → u < length l.fn.values → slice_index l.values u
      ≡ route_value (rounded_in l.bound) l.network l.dest (drop l.left l.route) u;
}

abbrev pub decreases-loop-left : goal.decreases-loop-left
decreases-loop-left l = l.left
