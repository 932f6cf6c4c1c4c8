use Rattle.std.proofs.lemmas.List.{length-map}
use Rattle.std.proofs.Common.{[]}
use Rattle.sota_bank.specs.Rows.{row_of}
use Rattle.sota_bank.proofs.ByRow.{empty-list, empty-cap}
use Rattle.sota_bank.proofs.laws.new_rows_are_empty.Goals as goal

pub returns : goal.returns
returns g c = record {
  lists = λ caps row. empty-list _ caps row;
  capacities = λ caps row within. empty-cap _ caps row;
  count = λ caps. length-map caps (λ n. row_of [] n);
}
