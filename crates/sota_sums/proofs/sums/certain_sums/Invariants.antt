use Rattle.std.proofs.Common.{ℕ, ◌≡◌, ◌+◌, ◌<◌, length, slice_index}
use Rattle.sota_units.specs.Rounding.{ONE}
use Rattle.sota_network.specs.Grid.{weighed}
use Rattle.sota_sums.proofs.sums.certain_sums.Given as goal

abbrev pub invariant-loop-place : goal.invariant-loop-place
invariant-loop-place l = record {
  room : length l.into ≡ length l.initial.into;
  sums : (x : ℕ) → x < l.place → slice_index l.into x ≡ weighed (λ u. ONE) (l.from + x) l.time;
}
