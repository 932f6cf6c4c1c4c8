use Rattle.std.proofs.Common.{ℕ, ◌+◌, ◌≤◌, ◌++◌, take}
use Rattle.std.specs.List.{All, filter_map}
use Rattle.std.specs.List.Sorted.{IsPermutation}
use Rattle.std.specs.Option.{option_and_then}
use Rattle.std.specs.BinaryHeap.{heap_items, IsHeap}
use Rattle.sota_network.specs.Network.{arc_at}
use Rattle.sota_units.specs.Limits.{TICK_LIMIT}
use Rattle.sota_bounds.specs.Search.{next_visit, by_time}
use Rattle.sota_bounds.specs.declared.search.Visit.{Visit}
use Rattle.sota_bounds.proofs.search.queue_next.Given as goal

abbrev pub invariant-loop-number : goal.invariant-loop-number
invariant-loop-number l = record {
  order : IsHeap by_time (heap_items l.queue);
  queued : IsPermutation (heap_items l.initial.queue ++ filter_map (λ e. option_and_then (next_visit l.direction l.dest l.visit l.times) (arc_at l.network e)) (take l.number-index l.number-items)) (heap_items l.queue);
  soon : (limit : ℕ) → l.visit.time.0 + TICK_LIMIT ≤ limit → All (λ (v : Visit). v.time.0 ≤ limit) (heap_items l.initial.queue) → All (λ (v : Visit). v.time.0 ≤ limit) (heap_items l.queue);
}
