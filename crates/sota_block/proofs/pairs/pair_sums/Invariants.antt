use Rattle.std.proofs.Common.{◌≡◌, ℕ, ◌+◌, ◌<◌, ◌^◌, slice_index, take}
use Rattle.sota_block.specs.Pairs.{pairs_sum}
use Rattle.sota_block.proofs.PairSums.{Holds}
use Rattle.sota_block.proofs.pairs.pair_sums.Given as goal

abbrev pub invariant-loop-tick : goal.invariant-loop-tick
invariant-loop-tick l = (j : ℕ) → j < 8 → Holds l.row (l.at + j) (take l.tick-index l.pairs) (slice_index l.low j) (slice_index l.high j)

abbrev pub invariant-loop-j : goal.invariant-loop-j
invariant-loop-j l = record {
  sums : (k : ℕ) → k < l.j → slice_index l.into k ≡ pairs_sum l.row (l.at + k) l.pairs;
  small : (k : ℕ) → k < l.j → slice_index l.into k < 2 ^ 100;
}
