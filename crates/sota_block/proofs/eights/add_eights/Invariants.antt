use Rattle.std.proofs.Common.{◌≡◌, ℕ, ◌+◌, ◌*◌, ◌<◌, ◌≤◌, slice_index}
use Rattle.sota_block.specs.Meeting.{low_half, high_half, crossed_by}
use Rattle.sota_block.proofs.eights.add_eights.Given as goal

abbrev pub invariant-loop-part : goal.invariant-loop-part
invariant-loop-part l = record {
  low : (k : ℕ) → k < 8 * l.part → slice_index l.low k ≡ slice_index l.initial.low k + crossed_by low_half l.masses l.padded (k + 8);
  high : (k : ℕ) → k < 8 * l.part → slice_index l.high k ≡ slice_index l.initial.high k + crossed_by high_half l.masses l.padded (k + 8);
  low_left : (k : ℕ) → 8 * l.part ≤ k → slice_index l.low k ≡ slice_index l.initial.low k;
  high_left : (k : ℕ) → 8 * l.part ≤ k → slice_index l.high k ≡ slice_index l.initial.high k;
}
