use Rattle.std.proofs.Common.{◌≡◌, ◌+◌, drop}
use Rattle.sota_histcsv.specs.Histograms.{timed}
use Rattle.sota_histcsv.specs.Kept.{contents_in}
use Rattle.sota_histcsv.proofs.Grouping.{IsRest, timed_rest}
use Rattle.sota_histcsv.proofs.times.timed_arcs.Given as goal

-- the arcs so far, and those that are left with the entries that are left, make all
abbrev pub invariant-loop-index : goal.invariant-loop-index
invariant-loop-index l = record {
  arcs : timed_rest (contents_in l.table) l.arcs.items (l.index + 1) (drop l.index l.raw)
      ≡ timed (contents_in l.table) l.raw;
  rest : IsRest l.table.entries.items l.rest (l.index + 1);
}
