use Rattle.std.proofs.Common.{ℕ, ◌≡◌, ◌+◌, ◌<◌, length, take, slice_index}
use Rattle.sota_network.specs.Grid.{plain_sum}
use Rattle.sota_period.specs.Rows.{row_value}
use Rattle.sota_network.specs.Among.{best_among, numbered_worth}
use Rattle.sota_period.specs.Broad.{StillSummers}
use Rattle.sota_period.proofs.bests.find_bests.Given as goal

abbrev pub invariant-loop-number : goal.invariant-loop-number
invariant-loop-number g l = record {
  sums : length l.part.sums ≡ 64;
  room : length l.part.bests ≡ 64;
  grains : l.part.grains ≡ l.fn.part.grains;
  summers : StillSummers g.Z.Summer.state l.rows l.network l.fn.workspace l.fn.broad l.workspace l.broad;
  bests : (x : ℕ) → x < l.count → slice_index l.part.bests x ≡ best_among (numbered_worth l.network (λ a. plain_sum a (row_value l.rows) (l.from + x))) (take l.number-index l.number-items);
}
