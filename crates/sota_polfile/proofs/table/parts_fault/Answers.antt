use Rattle.std.proofs.Common.{◌≡◌, ◌∙◌, map, None, All, sym, arith}
use Rattle.std.proofs.lemmas.List.Elements.{All-more, All-same}
use Rattle.std.proofs.lemmas.List.{take_all}
use Rattle.sota_polfile.specs.Entry.{IsEntry}
use Rattle.sota_polfile.specs.Table.{row_head}
use Rattle.sota_polfile.specs.Faults.{numbers_fault, rows_fault}
use Rattle.sota_polfile.proofs.Parts.{head_at_fault, head_passes, parts_are}
use Rattle.sota_polfile.proofs.Rules.{fit_head, numbers_fit, above_before, rows_go_on, rows_end, rows_done}
use Rattle.sota_polfile.proofs.table.parts_fault.Goals as goal
use Rattle.sota_polfile.proofs.table.parts_fault.Goals.{After-loop-row}

pub returns-then-not-is_in_range-clause-value : goal.returns-then-not-is_in_range-clause-value
returns-then-not-is_in_range-clause-value c = sym (head_at_fault c.args.head.now c.args.rows.now (cc))

pub returns-in-Some-clause-value : goal.returns-in-Some-clause-value
returns-in-Some-clause-value c =
    rows_end c.args.head.now c.loop-row.before c.loop-row.number c.loop-row.row-index c.args.rows.now c.row-item.result c.in-Some.fault _ c.loop-row-test.true c.row-item.is (rw c.numbers.ensures.value at (sym c.in-Some.ensures)) c.loop-row.invariant.so_far ∙ sym (head_passes c.args.head.now c.args.rows.now (fit_head c.args.head.now (c.is_in_range.ensures.valid c.if-not-is_in_range.false)))

pub loop-row-preserved : goal.loop-row-preserved
loop-row-preserved c =
    let row = c.row-item.result in
    let none : numbers_fault c.args.head.now c.loop-row.before c.loop-row.number (row_head row) ≡ None = rw c.numbers.ensures.value at (sym c.in_default.ensures) in
    let fits = numbers_fit c.args.head.now c.loop-row.before c.loop-row.number (row_head row) none in
    record {
      number = omega arith;
      so_far = rows_go_on c.args.head.now c.loop-row.before c.loop-row.number c.loop-row.row-index c.args.rows.now row _ c.loop-row-test.true c.row-item.is none c.loop-row.invariant.so_far;
      below = omega (arith, above_before c.loop-row.before row.node fits.0 fits.1.node.0);
      within = fits.1.node.1;
      entries = All-more (λ row. All IsEntry row.entries) c.args.rows.now c.loop-row.row-index row c.loop-row-test.true c.loop-row.invariant.entries (rw (← c.row-item.is) c.numbers.ensures.entries);
    }

none : (c : After-loop-row) → None ≡ rows_fault c.args.head.now None 1 (map row_head c.args.rows.now)
none c = rows_done c.args.head.now c.loop-row.before c.loop-row.number c.loop-row.row-index c.args.rows.now _ c.loop-row-test.false c.loop-row.invariant.so_far

pub returns-clause-value : goal.returns-clause-value
returns-clause-value c =
    none c ∙ sym (head_passes c.args.head.now c.args.rows.now (fit_head c.args.head.now (c.is_in_range.ensures.valid c.if-not-is_in_range.false)))

pub returns-clause-valid : goal.returns-clause-valid
returns-clause-valid c =
    parts_are c.args.head.now c.args.rows.now (c.is_in_range.ensures.valid c.if-not-is_in_range.false) (none c) (All-same (λ row. All IsEntry row.entries) c.args.rows.now _ (sym (take_all c.loop-row.row-index c.args.rows.now c.loop-row-test.false)) c.loop-row.invariant.entries)
