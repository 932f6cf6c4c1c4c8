use Rattle.std.proofs.Common.{◌≡◌, ◌+◌, ◌==◌, drop}
use Rattle.std.specs.List.{prefix_len}
use Rattle.sota_histcsv.specs.declared.entry.Entry.{Entry}
use Rattle.sota_histcsv.proofs.times.count_first.Given as goal

abbrev pub invariant-loop-index : goal.invariant-loop-index
invariant-loop-index l = l.index + prefix_len (λ (entry : Entry). entry.arc == l.arc) (drop l.index l.entries) ≡ prefix_len (λ (entry : Entry). entry.arc == l.arc) l.entries
