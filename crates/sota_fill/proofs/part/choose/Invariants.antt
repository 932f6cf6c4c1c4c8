use Rattle.std.proofs.Common.{ℕ, ◌≡◌, ◌<◌, ◌≤◌, max, nat_lt, length, slice_index, slice_index_or, None, Some, if◌then◌else◌}
use Rattle.sota_fill.proofs.part.choose.Given as goal

abbrev pub invariant-loop-place : goal.invariant-loop-place
invariant-loop-place l = record {
  room : length l.bests ≡ length l.initial.bests;
  choices_room : length l.choices ≡ length l.initial.choices;
  done : (x : ℕ) → x < l.place → slice_index l.bests x ≡ max (slice_index l.initial.bests x) (slice_index l.sums x);
  left : (x : ℕ) → l.place ≤ x → slice_index l.bests x ≡ slice_index l.initial.bests x;
  choices_done : (x : ℕ) → x < l.place → slice_index_or l.choices x None
      ≡ if nat_lt (slice_index l.initial.bests x) (slice_index l.sums x) then Some l.arc else slice_index_or l.initial.choices x None;
  choices_left : (x : ℕ) → l.place ≤ x → slice_index_or l.choices x None ≡ slice_index_or l.initial.choices x None;
}
