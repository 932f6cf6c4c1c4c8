use Rattle.std.proofs.Common.{◌≡◌, take}
use Rattle.sota_histcsv.specs.Histograms.{tick_pairs}
use Rattle.sota_histcsv.proofs.times.put_pairs.Given as goal

abbrev pub invariant-loop-entry : goal.invariant-loop-entry
invariant-loop-entry l = l.pairs.items ≡ tick_pairs (take l.entry-index l.entries)
