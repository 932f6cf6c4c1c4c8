use Rattle.std.proofs.Common.{◌≡◌, length, get_or, ap, arith}
use Rattle.std.proofs.lemmas.List.Sums.{sum_by_more_le}
use Rattle.sota_polfile.specs.declared.bracket_row.BracketRow.{BracketRow}
use Rattle.sota_polfile.proofs.BracketParts.{cells_bound}
use Rattle.sota_polfile.proofs.bracket_table.BracketTable.cells.Goals as goal

pub overflow_add-count : goal.overflow_add-count
overflow_add-count c =
    let rows = c.rows-row-items.result.now in
    let row = c.row-item.result in
    let more = sum_by_more_le (λ (r : BracketRow). length r.entries) rows c.loop-row.row-index row c.loop-row-test.true in
    let here : length row.entries ≡ length (get_or rows c.loop-row.row-index row).entries = ap (λ (r : BracketRow). length r.entries) c.row-item.is in
    let whole = rw c.rows-row-items.ensures.value at more in
    let is = c.rows-row-items.ensures.valid in
    omega (arith, cells_bound c.args.self.now is, c.rows-row-items.ensures.size, is.head.nodes.1, rw c.rows-row-items.ensures.value at here, rw c.rows-row-items.ensures.value at c.loop-row.invariant)
