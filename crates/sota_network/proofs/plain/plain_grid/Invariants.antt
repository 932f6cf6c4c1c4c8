use Rattle.std.proofs.Common.{◌≡◌, length, None}
use Rattle.sota_network.specs.Grid.{lo, hi, choice}
use Rattle.sota_network.proofs.Tables.{Filled}
use Rattle.sota_network.proofs.plain.plain_grid.Given as goal

abbrev pub invariant-loop-time : goal.invariant-loop-time
invariant-loop-time l = record {
  lower : Filled 0 l.lower.items l.network.nodes l.time (lo l.network l.dest);
  upper : Filled 0 l.upper.items l.network.nodes l.time (hi l.network l.dest);
  choices : Filled None l.choices.items l.network.nodes l.time (choice l.network l.dest);
  bests : length l.bests ≡ l.network.nodes;
}
