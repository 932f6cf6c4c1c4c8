use Rattle.std.proofs.Common.{◌+◌, ◌≤◌, length}
use Rattle.sota_histcsv.specs.Repeats.{IsLeastRepeat}
use Rattle.sota_histcsv.proofs.repeats.least_repeat.Given as goal

abbrev pub invariant-loop-index : goal.invariant-loop-index
invariant-loop-index l = record {
  least : IsLeastRepeat l.sorted l.index l.least;
  close : l.index ≤ length l.sorted + 1;
}
