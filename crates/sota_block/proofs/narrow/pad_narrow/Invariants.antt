use Rattle.std.proofs.Common.{◌≡◌, ℕ, ◌+◌, ◌<◌, ◌≤◌, slice_index}
use Rattle.sota_block.proofs.narrow.pad_narrow.Given as goal

abbrev pub invariant-loop-i : goal.invariant-loop-i
invariant-loop-i l = record {
  before : (j : ℕ) → j < 8 → slice_index l.padded j ≡ 0;
  inside : (a : ℕ) → a < l.i → slice_index l.padded (8 + a) ≡ slice_index l.values a;
  after : (j : ℕ) → 8 + l.i ≤ j → slice_index l.padded j ≡ 0;
}
