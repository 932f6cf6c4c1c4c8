use Rattle.std.proofs.Common.{◌≡◌, ℕ, ◌+◌, ◌*◌, ◌<◌, ◌^◌, slice_index}
use Rattle.sota_online.specs.Summer.{plain}
use Rattle.sota_online.proofs.sums.plain_sums.Given as goal

abbrev pub invariant-loop-part : goal.invariant-loop-part
invariant-loop-part l = record {
  sums : (j : ℕ) → j < 8 * l.part → slice_index l.into j ≡ plain l.masses l.values (l.from + j);
  within : (j : ℕ) → j < 8 * l.part → slice_index l.into j < 2 ^ 97;
}
