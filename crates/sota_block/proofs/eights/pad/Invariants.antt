use Rattle.std.proofs.Common.{◌≡◌, ℕ, ◌+◌, ◌<◌, slice_index, length}
use Rattle.sota_block.proofs.eights.pad.Given as goal

abbrev pub invariant-loop-i : goal.invariant-loop-i
invariant-loop-i l = record {
  inside : (a : ℕ) → a < length l.values → slice_index l.padded (8 + a) ≡ slice_index l.values a;
  before : (j : ℕ) → j < l.i → slice_index l.padded j ≡ 0;
  after : (j : ℕ) → j < l.i → slice_index l.padded (l.end + j) ≡ 0;
}
