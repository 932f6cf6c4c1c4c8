use Rattle.std.proofs.Common.{◌≡◌, ℕ, ◌+◌, ◌<◌, ◌≤◌, length, slice_index}
use Rattle.sota_online.proofs.kernel.skips_of.Given as goal

abbrev pub invariant-loop-k : goal.invariant-loop-k
invariant-loop-k l = record {
  long : length l.skips.items ≡ length l.masses;
  least : length l.masses ≤ l.next + l.k;
  most : l.next ≤ length l.masses;
  none : (i : ℕ) → length l.masses ≤ i + l.k → i < l.next → slice_index l.masses i ≡ 0;
  forward : (b : ℕ) → length l.masses ≤ b + l.k → b < length l.masses → b ≤ slice_index l.skips.items b;
  zeros : (b i : ℕ) → length l.masses ≤ b + l.k → b < length l.masses → b ≤ i → i < slice_index l.skips.items b → slice_index l.masses i ≡ 0;
}
