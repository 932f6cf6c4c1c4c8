use Rattle.std.proofs.Common.{ℕ, ◌+◌, ◌<◌, ◌≤◌, ◌^◌, slice_index}
use Rattle.sota_hist.specs.Time.{within}
use Rattle.sota_network.specs.Grid.{weighed}
use Rattle.sota_block.specs.Pairs.{pairs_sum}
use Rattle.sota_sums.proofs.Tiles.{IsFilled}
use Rattle.sota_sums.proofs.sums.tile_sums.Given as goal

abbrev pub invariant-loop-j : goal.invariant-loop-j
invariant-loop-j l = record {
  filled : IsFilled (λ x. weighed (λ u. slice_index l.row u) (l.at + x) l.time) (λ x. pairs_sum l.row (l.at + x) (within l.at l.time)) 8 l.j l.into;
  small : (x : ℕ) → l.j ≤ x → x < 8 → slice_index l.into x < 2 ^ 100;
}
