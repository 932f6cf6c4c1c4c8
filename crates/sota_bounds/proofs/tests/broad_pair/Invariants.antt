use Rattle.std.proofs.Common.{◌≤◌, length}
use Rattle.std.specs.List.{All}
use Rattle.sota_hist.specs.Time.{IsTime, total}
use Rattle.sota_network.specs.declared.network.Arc.{Arc}
use Rattle.sota_bounds.proofs.tests.broad_pair.Given as goal

abbrev pub invariant-loop-tick : goal.invariant-loop-tick
invariant-loop-tick l = length l.pairs.items ≤ l.tick

abbrev pub invariant-loop : goal.invariant-loop
invariant-loop l = record {
  count : length l.arcs.items ≤ l.counter;
  tails : All (λ (arc : Arc). (1 ≤ arc.tail) × (arc.tail ≤ 2)) l.arcs.items;
  heads : All (λ (arc : Arc). (1 ≤ arc.head) × (arc.head ≤ 2)) l.arcs.items;
  times : All (λ (arc : Arc). IsTime arc.time) l.arcs.items;
  totals : All (λ (arc : Arc). total arc.time ≤ l.scale) l.arcs.items;
}
