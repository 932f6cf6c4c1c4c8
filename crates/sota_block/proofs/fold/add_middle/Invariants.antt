use Rattle.std.proofs.Common.{◌≡◌, ℕ, ◌+◌, ◌-◌, ◌<◌, ◌≤◌, slice_index}
use Rattle.sota_block.proofs.fold.add_middle.Given as goal

abbrev pub invariant-loop-i : goal.invariant-loop-i
invariant-loop-i l = record {
  second : (k : ℕ) → k < l.i → slice_index l.second k
      ≡ slice_index l.initial.second k + (slice_index l.middle_low k - slice_index l.first k - slice_index l.initial.third k);
  third : (k : ℕ) → k < l.i → slice_index l.third k
      ≡ slice_index l.initial.third k + (slice_index l.middle_high k - slice_index l.initial.second k - slice_index l.fourth k);
  second_left : (k : ℕ) → l.i ≤ k → slice_index l.second k ≡ slice_index l.initial.second k;
  third_left : (k : ℕ) → l.i ≤ k → slice_index l.third k ≡ slice_index l.initial.third k;
}
