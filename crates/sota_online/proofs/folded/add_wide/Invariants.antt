use Rattle.std.proofs.Common.{◌≡◌, ℕ, ◌+◌, ◌<◌, ◌≤◌, slice_index}
use Rattle.sota_block.specs.Meeting.{low_half, high_half}
use Rattle.sota_online.proofs.folded.add_wide.Given as goal

abbrev pub invariant-loop-k : goal.invariant-loop-k
invariant-loop-k l = record {
  low : (j : ℕ) → j < l.k → slice_index l.low j ≡ slice_index l.initial.low j + low_half (slice_index l.sums j);
  high : (j : ℕ) → j < l.k → slice_index l.high j ≡ slice_index l.initial.high j + high_half (slice_index l.sums j);
  low_left : (j : ℕ) → l.k ≤ j → slice_index l.low j ≡ slice_index l.initial.low j;
  high_left : (j : ℕ) → l.k ≤ j → slice_index l.high j ≡ slice_index l.initial.high j;
}
