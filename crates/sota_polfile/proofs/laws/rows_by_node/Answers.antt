use Rattle.std.proofs.Common.{◌-◌, get_or, arith}
use Rattle.std.proofs.lemmas.Option.{slice_get-get_or}
use Rattle.sota_polfile.proofs.InRows.{row-found, gap-at}
use Rattle.sota_polfile.proofs.laws.rows_by_node.Goals as goal

pub returns : goal.returns
returns c = record {
  found = λ table k row valid at. row-found table.rows valid.rising k row at;
  absent = λ table k node valid within below above.
      gap-at table.rows valid.rising k node within
      (λ d some. below (get_or table.rows (k - 1) d) some (slice_get-get_or table.rows (k - 1) d (omega (arith, some, within))))
      (λ d inside. above (get_or table.rows k d) (slice_get-get_or table.rows k d inside));
}
