use Rattle.std.proofs.Common.{ℕ, ◌≡◌, ◌<◌, length, slice_index}
use Rattle.sota_sums.specs.Bounds.{rounded_in}
use Rattle.sota_sums.proofs.bound.round.Given as goal

abbrev pub invariant-loop-place : goal.invariant-loop-place
invariant-loop-place l = record {
  room : length l.into ≡ length l.initial.into;
  done : (x : ℕ) → x < l.place → slice_index l.into x ≡ rounded_in l.bound l.scale (slice_index l.sums x);
}
