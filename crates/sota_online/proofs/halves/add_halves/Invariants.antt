use Rattle.std.proofs.Common.{◌≡◌, ℕ, ◌+◌, ◌*◌, ◌^◌, ◌<◌, ◌≤◌, slice_index}
use Rattle.sota_online.proofs.halves.add_halves.Given as goal

abbrev pub invariant-loop-k : goal.invariant-loop-k
invariant-loop-k l = record {
  done : (j : ℕ) → j < l.k → slice_index l.into j ≡ slice_index l.initial.into j + (slice_index l.low j + 4294967296 * slice_index l.high j);
  small : (j : ℕ) → j < l.k → slice_index l.into j < 2 ^ 98;
  left : (j : ℕ) → l.k ≤ j → slice_index l.into j ≡ slice_index l.initial.into j;
}
