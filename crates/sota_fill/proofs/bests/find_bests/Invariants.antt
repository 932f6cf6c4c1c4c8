use Rattle.std.proofs.Common.{ℕ, ◌+◌, ◌*◌, ◌<◌, slice_index, slice_index_or, take, None}
use Rattle.sota_network.specs.Grid.{plain_sum}
use Rattle.sota_kept.specs.NodeTables.{lower_in, upper_in}
use Rattle.sota_tables.specs.Views.{table_at}
use Rattle.sota_network.specs.Among.{best_among, choice_among, numbered_worth}
use Rattle.sota_fill.proofs.Near.{Near, NearChoice}
use Rattle.sota_fill.proofs.bests.find_bests.Given as goal

-- the bests of the first numbers, where these are not below the floor
abbrev pub invariant-loop-number : goal.invariant-loop-number
invariant-loop-number g l = record {
  lower : (x : ℕ) → x < l.count → Near (l.sources.target.now.network.now.scale * l.floor) (slice_index l.part.lower x)
      (best_among (numbered_worth l.sources.target.now.network.now (λ arc. plain_sum arc (lower_in l.sources.target.now.dest (table_at l.sources.tables.now)) (l.from + x))) (take l.number-index l.number-items));
  upper : (x : ℕ) → x < l.count → Near (l.sources.target.now.network.now.scale * l.floor) (slice_index l.part.upper x)
      (best_among (numbered_worth l.sources.target.now.network.now (λ arc. plain_sum arc (upper_in l.sources.target.now.dest (table_at l.sources.tables.now)) (l.from + x))) (take l.number-index l.number-items));
  choices : (x : ℕ) → x < l.count → NearChoice (l.sources.target.now.network.now.scale * l.floor)
      (best_among (numbered_worth l.sources.target.now.network.now (λ arc. plain_sum arc (lower_in l.sources.target.now.dest (table_at l.sources.tables.now)) (l.from + x))) (take l.number-index l.number-items))
      (slice_index_or l.part.choices x None)
      (choice_among (numbered_worth l.sources.target.now.network.now (λ arc. plain_sum arc (lower_in l.sources.target.now.dest (table_at l.sources.tables.now)) (l.from + x))) (take l.number-index l.number-items));
}
