use Rattle.std.proofs.Common.{ℕ, ◌≡◌, ◌+◌, ◌<◌, length, get_or}
use Rattle.std.specs.List.{All}
use Rattle.sota_network.specs.declared.network.Arc.{Arc}
use Rattle.sota_period.specs.Periods.{first_net}
use Rattle.sota_period.specs.Needs.{IsCertain, IsQuickest}
use Rattle.sota_period.proofs.needs.quickest.Given as goal

abbrev pub invariant-loop-index : goal.invariant-loop-index
invariant-loop-index l = record {
  count : length l.arcs.items ≡ l.index;
  certain : All (IsCertain (first_net l.timed).nodes) l.arcs.items;
  quickest : (n : ℕ) (d : Arc) → n < l.index → IsQuickest l.timed (n + 1) (get_or l.arcs.items n d);
}
