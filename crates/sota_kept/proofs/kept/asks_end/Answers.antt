use Rattle.std.proofs.Common.{◌≡◌, ◌-◌, ◌+◌, ap, sym, ◌∙◌, suc, arith}
use Rattle.sota_network.specs.Region.{need}
use Rattle.sota_kept.specs.NodeTables.{NodeTable, known_end}
use Rattle.sota_kept.specs.Asks.{left_to_push}
use Rattle.sota_kept.proofs.Ending.{state-grown, left-falls, left-none, missing-left}
use Rattle.sota_kept.proofs.kept.asks_end.Goals as goal

pub returns : goal.returns
returns c = record {
  state = λ net origin dest last old new valid within ready is met. state-grown c.lists_by_number.ensures net (c.network_laws.ensures net valid) origin dest last within old new ready is met;
  missing = λ net origin dest last held before at. missing-left net origin dest last held before at;
  falls = λ net origin dest last i old new node less more others.
      left-falls c.lists_by_number.ensures (λ k. need net origin dest last k - known_end (old k)) (λ k. need net origin dest last k - known_end (new k)) net.nodes i node.0 node.1 (omega arith) (λ j apart. ap (λ (s : NodeTable). need net origin dest last j - known_end s) (sym (others j apart)))
      ∙ (let z : suc (left_to_push net origin dest last new) ≡ left_to_push net origin dest last new + 1 = omega arith in z);
  nothing = λ net origin dest last tables met. left-none (λ k. need net origin dest last k - known_end (tables k)) net.nodes (λ i low high. let h = met i (low, high) in omega (arith, h));
}
