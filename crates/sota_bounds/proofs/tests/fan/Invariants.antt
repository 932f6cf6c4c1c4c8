use Rattle.std.proofs.Common.{◌*◌, ◌≤◌, length}
use Rattle.std.specs.List.{All}
use Rattle.sota_hist.specs.Time.{IsTime, total}
use Rattle.sota_network.specs.declared.network.Arc.{Arc}
use Rattle.sota_bounds.proofs.tests.fan.Given as goal

abbrev pub invariant-loop-node : goal.invariant-loop-node
invariant-loop-node l = record {
  count : length l.arcs.items ≤ 2 * l.node;
  tails : All (λ (arc : Arc). (1 ≤ arc.tail) × (arc.tail ≤ l.nodes)) l.arcs.items;
  heads : All (λ (arc : Arc). (1 ≤ arc.head) × (arc.head ≤ l.nodes)) l.arcs.items;
  times : All (λ (arc : Arc). IsTime arc.time) l.arcs.items;
  totals : All (λ (arc : Arc). total arc.time ≤ 1) l.arcs.items;
}
