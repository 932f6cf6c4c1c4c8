use Rattle.std.proofs.Common.{ℕ, ◌^◌, ◌<◌, slice_index}
use Rattle.sota_block.proofs.narrow.are_narrow.Given as goal

abbrev pub invariant-loop-value : goal.invariant-loop-value
invariant-loop-value l = (k : ℕ) → k < l.value-index → slice_index l.values k < 2 ^ 64
