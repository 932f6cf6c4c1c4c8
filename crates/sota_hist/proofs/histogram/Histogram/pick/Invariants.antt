use Rattle.std.proofs.Common.{◌≡◌, ◌≤◌, drop}
use Rattle.sota_hist.proofs.Picking.{pick_from}
use Rattle.sota_hist.proofs.histogram.Histogram.pick.Given as goal

abbrev pub invariant-loop-pair : goal.invariant-loop-pair
invariant-loop-pair l = record {
  low : l.sum ≤ l.draw;
  rest : pick_from l.draw l.sum (drop l.pair-index l.pair-items) ≡ pick_from l.draw 0 l.pair-items;
}
