use Rattle.std.proofs.Common.{◌≤◌, length}
use Rattle.std.specs.List.{All}
use Rattle.sota_hist.specs.Time.{IsTime, total}
use Rattle.sota_network.specs.declared.network.Arc.{Arc}
use Rattle.sota_period.proofs.tests.made_network.Given as goal

abbrev pub invariant-loop-number : goal.invariant-loop-number
invariant-loop-number l = record {
  count : length l.list.items ≤ l.number;
  tails : All (λ (arc : Arc). (1 ≤ arc.tail) × (arc.tail ≤ l.nodes)) l.list.items;
  heads : All (λ (arc : Arc). (1 ≤ arc.head) × (arc.head ≤ l.nodes)) l.list.items;
  times : All (λ (arc : Arc). IsTime arc.time) l.list.items;
  totals : All (λ (arc : Arc). total arc.time ≤ l.scale) l.list.items;
}
