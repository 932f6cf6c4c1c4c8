use Rattle.std.proofs.Common.{◌≡◌, ℕ, ◌+◌, ◌-◌, ◌<◌, min, length, slice_index}
use Rattle.sota_block.specs.Meeting.{low_half, high_half}
use Rattle.sota_block.proofs.Crossings.{partial}
use Rattle.sota_block.proofs.dense.add_skipping.Given as goal

abbrev pub invariant-loop-b : goal.invariant-loop-b
invariant-loop-b l = record {
  low : (j : ℕ) → j < 8 → slice_index l.low_sums j ≡ slice_index l.low j + partial low_half l.masses l.values (l.at + j) (min l.b (length l.masses));
  high : (j : ℕ) → j < 8 → slice_index l.high_sums j ≡ slice_index l.high j + partial high_half l.masses l.values (l.at + j) (min l.b (length l.masses));
}

abbrev pub decreases-loop-b : goal.decreases-loop-b
decreases-loop-b l = length l.masses - l.b
