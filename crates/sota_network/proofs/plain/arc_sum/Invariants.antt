use Rattle.std.proofs.Common.{◌≡◌, ◌*◌, ◌≤◌, take}
use Rattle.sota_units.specs.Rounding.{ONE}
use Rattle.sota_hist.specs.Time.{total}
use Rattle.sota_network.specs.Grid.{weighed}
use Rattle.sota_network.specs.GridView.{in_table}
use Rattle.sota_network.proofs.plain.arc_sum.Given as goal

abbrev pub invariant-loop-tick : goal.invariant-loop-tick
invariant-loop-tick l = record {
  value : l.sum ≡ weighed (in_table l.values l.nodes l.arc.head) l.budget (take l.tick-index l.tick-items);
  within : l.sum ≤ total (take l.tick-index l.tick-items) * ONE;
}
