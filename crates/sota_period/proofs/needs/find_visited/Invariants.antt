use Rattle.std.proofs.Common.{ℕ, ◌≡◌, ◌≢◌, ◌<◌, ◌≤◌, length, slice_index}
use Rattle.std.specs.List.{All}
use Rattle.sota_period.specs.Needs.{node_need}
use Rattle.sota_period.proofs.needs.find_visited.Given as goal

abbrev pub invariant-loop-index : goal.invariant-loop-index
invariant-loop-index l = record {
  all : (i : ℕ) → 1 ≤ i → i ≤ l.index → i ≢ l.dest → 1 ≤ node_need l.needs i → (k : ℕ) × (k < length l.nodes.items) × (slice_index l.nodes.items k ≡ i);
  only : All (λ i. (1 ≤ i) × (i ≤ length l.needs) × (i ≢ l.dest)) l.nodes.items;
}
