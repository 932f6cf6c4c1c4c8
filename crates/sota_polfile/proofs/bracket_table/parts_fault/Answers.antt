use Rattle.std.proofs.Common.{◌≡◌, ◌∙◌, None, All, sym, arith}
use Rattle.std.proofs.lemmas.List.Elements.{All-more, All-same}
use Rattle.std.proofs.lemmas.List.{take_all}
use Rattle.sota_polfile.specs.Entry.{IsBracketEntry}
use Rattle.sota_polfile.specs.Bracket.{part_head}
use Rattle.sota_polfile.specs.BracketFile.{part_fault, bracket_rows_fault}
use Rattle.sota_polfile.proofs.Rules.{fit_head}
use Rattle.sota_polfile.proofs.BracketParts.{head_at_fault, head_passes, parts_are, rows_go_on, rows_end, rows_done}
use Rattle.sota_polfile.proofs.bracket_table.parts_fault.Goals as goal
use Rattle.sota_polfile.proofs.bracket_table.parts_fault.Goals.{After-loop-row}

pub returns-then-not-is_in_range-clause-value : goal.returns-then-not-is_in_range-clause-value
returns-then-not-is_in_range-clause-value c = sym (head_at_fault c.args.head.now c.args.rows.now (cc))

pub returns-in-Some-clause-value : goal.returns-in-Some-clause-value
returns-in-Some-clause-value c =
    rows_end c.args.head.now c.loop-row.node c.loop-row.row-index c.args.rows.now c.row-item.result c.in-Some.fault _ c.loop-row-test.true c.row-item.is (rw c.numbers.ensures.value at (sym c.in-Some.ensures)) c.loop-row.invariant.so_far ∙ sym (head_passes c.args.head.now c.args.rows.now (fit_head c.args.head.now (c.is_in_range.ensures.valid c.if-not-is_in_range.false)))

pub loop-row-preserved : goal.loop-row-preserved
loop-row-preserved c =
    let row = c.row-item.result in
    let none : part_fault c.args.head.now (part_head c.loop-row.node row) ≡ None = rw c.numbers.ensures.value at (sym c.in_default.ensures) in
    record {
      node = omega arith;
      so_far = rows_go_on c.args.head.now c.loop-row.node c.loop-row.row-index c.args.rows.now row _ c.loop-row-test.true c.row-item.is none c.loop-row.invariant.so_far;
      entries = All-more (λ row. All IsBracketEntry row.entries) c.args.rows.now c.loop-row.row-index row c.loop-row-test.true c.loop-row.invariant.entries (rw (← c.row-item.is) c.numbers.ensures.entries);
    }

none : (c : After-loop-row) → None ≡ bracket_rows_fault c.args.head.now 1 c.args.rows.now
none c = rows_done c.args.head.now c.loop-row.node c.loop-row.row-index c.args.rows.now _ c.loop-row-test.false c.loop-row.invariant.so_far

pub returns-clause-value : goal.returns-clause-value
returns-clause-value c =
    none c ∙ sym (head_passes c.args.head.now c.args.rows.now (fit_head c.args.head.now (c.is_in_range.ensures.valid c.if-not-is_in_range.false)))

pub returns-clause-valid : goal.returns-clause-valid
returns-clause-valid c =
    parts_are c.args.head.now c.args.rows.now (c.is_in_range.ensures.valid c.if-not-is_in_range.false) c.requires (none c) (All-same (λ row. All IsBracketEntry row.entries) c.args.rows.now _ (sym (take_all c.loop-row.row-index c.args.rows.now c.loop-row-test.false)) c.loop-row.invariant.entries)
