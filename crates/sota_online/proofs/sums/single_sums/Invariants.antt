use Rattle.std.proofs.Common.{◌≡◌, ℕ, ◌+◌, ◌<◌, ◌^◌, slice_index}
use Rattle.sota_online.specs.Summer.{plain}
use Rattle.sota_online.proofs.sums.single_sums.Given as goal

abbrev pub invariant-loop-k : goal.invariant-loop-k
invariant-loop-k l = record {
  sums : (j : ℕ) → j < l.k → slice_index l.into j ≡ plain l.masses l.values (l.from + j);
  within : (j : ℕ) → j < l.k → slice_index l.into j < 2 ^ 97;
}
