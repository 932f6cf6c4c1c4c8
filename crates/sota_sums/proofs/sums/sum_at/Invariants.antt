use Rattle.std.proofs.Common.{◌≡◌, ◌*◌, ◌≤◌, take, slice_index}
use Rattle.sota_units.specs.Rounding.{ONE}
use Rattle.sota_hist.specs.Time.{total}
use Rattle.sota_network.specs.Grid.{weighed}
use Rattle.sota_sums.proofs.sums.sum_at.Given as goal

abbrev pub invariant-loop-tick : goal.invariant-loop-tick
invariant-loop-tick l = record {
  value : l.sum ≡ weighed (λ u. slice_index l.row u) l.place (take l.tick-index l.pairs);
  within : l.sum ≤ total (take l.tick-index l.pairs) * ONE;
}
