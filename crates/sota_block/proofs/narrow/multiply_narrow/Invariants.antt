use Rattle.std.proofs.Common.{◌≡◌, ℕ, ◌+◌, ◌*◌, ◌<◌, slice_index}
use Rattle.sota_block.specs.Meeting.{crossed_by}
use Rattle.sota_block.proofs.narrow.multiply_narrow.Given as goal

abbrev pub invariant-loop-part : goal.invariant-loop-part
invariant-loop-part l = (k : ℕ) → k < 8 * l.part → slice_index l.into k ≡ crossed_by (λ v. v) l.masses l.padded (k + 8)
