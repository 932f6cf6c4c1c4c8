use Rattle.std.proofs.Common.{ℕ, ◌≡◌, ◌<◌, ◌≤◌, max, length, slice_index}
use Rattle.sota_period.proofs.bests.raise.Given as goal

abbrev pub invariant-loop-place : goal.invariant-loop-place
invariant-loop-place l = record {
  room : length l.bests ≡ length l.initial.bests;
  done : (x : ℕ) → x < l.place → slice_index l.bests x ≡ max (slice_index l.initial.bests x) (slice_index l.sums x);
  left : (x : ℕ) → l.place ≤ x → slice_index l.bests x ≡ slice_index l.initial.bests x;
}
