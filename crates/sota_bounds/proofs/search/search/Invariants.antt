use Rattle.std.proofs.Common.{◌+◌, ◌-◌, ◌*◌, length}
use Rattle.std.specs.BinaryHeap.{heap_items, IsHeap}
use Rattle.sota_bounds.specs.Search.{by_time}
use Rattle.sota_bounds.proofs.Settling.{IsSearch, settled}
use Rattle.sota_bounds.proofs.search.search.Given as goal

abbrev pub invariant-loop-visit : goal.invariant-loop-visit
invariant-loop-visit l = record {
  order : IsHeap by_time (heap_items l.queue);
  search : IsSearch l.network l.dest l.direction l.fn.source l.times.items (heap_items l.queue);
}

abbrev pub decreases-loop-visit : goal.decreases-loop-visit
decreases-loop-visit l = (length l.times.items - settled l.times.items) * (length l.network.arcs + 1) + length (heap_items l.queue)
