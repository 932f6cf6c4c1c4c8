use Rattle.std.proofs.Common.{◌<◌, length}
use Rattle.std.specs.List.{All}
use Rattle.sota_histcsv.specs.declared.entry.Entry.{Entry}
use Rattle.sota_histcsv.specs.Records.{text_records}
use Rattle.sota_histcsv.specs.Kept.{NumbersRise}
use Rattle.sota_histcsv.proofs.Contents.{Goes}
use Rattle.sota_histcsv.proofs.table.read_table.Given as goal

abbrev pub invariant-loop-number : goal.invariant-loop-number
invariant-loop-number l = record {
  goes : Goes l.arcs l.scale (text_records l.text) l.reader l.entries.items l.number;
  few : length l.entries.items < l.number;
  rise : NumbersRise l.entries.items;
  below : All (λ (entry : Entry). entry.number < l.number) l.entries.items;
}
