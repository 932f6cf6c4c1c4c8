use Rattle.std.proofs.Common.{◌≡◌, length, take}
use Rattle.sota_network.specs.Grid.{plain_sum}
use Rattle.sota_period.specs.Rows.{row_value}
use Rattle.sota_network.specs.Among.{best_among, choice_among, numbered_worth}
use Rattle.sota_period.proofs.bests.choose.Given as goal

abbrev pub invariant-loop-number : goal.invariant-loop-number
invariant-loop-number l = record {
  sums : length l.sums ≡ 1;
  best : l.best ≡ best_among (numbered_worth l.network (λ a. plain_sum a (row_value l.rows) l.budget)) (take l.number-index l.number-items);
  choice : l.choice ≡ choice_among (numbered_worth l.network (λ a. plain_sum a (row_value l.rows) l.budget)) (take l.number-index l.number-items);
}
