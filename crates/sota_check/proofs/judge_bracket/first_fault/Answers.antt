use Rattle.std.proofs.Common.{List, ◌∙◌, ap, arith}
use Rattle.sota_polfile.specs.declared.bracket_row.BracketRow.{BracketRow}
use Rattle.sota_check.specs.Rejected.{first_cause}
use Rattle.sota_check.specs.BracketRejected.{bracket_row_rejection}
use Rattle.sota_check.proofs.Loops.{pass, stop, end}
use Rattle.sota_check.proofs.judge_bracket.first_fault.Goals as goal

pub returns-in-Some : goal.returns-in-Some
returns-in-Some c =
    stop (bracket_row_rejection c.args.network.now c.args.table.now) 1 c.loop-index.index _ c.rows-row-items.result.now c.row-item.result c.in-Some.fault _ c.loop-index-test.true c.row-item.is (omega arith) c.in-Some.ensures c.loop-index.invariant
    ∙ ap (λ (rows : List BracketRow). first_cause (bracket_row_rejection c.args.network.now c.args.table.now) 1 rows) c.rows-row-items.ensures.value

pub loop-index-preserved : goal.loop-index-preserved
loop-index-preserved c =
    pass (bracket_row_rejection c.args.network.now c.args.table.now) 1 c.loop-index.index _ c.rows-row-items.result.now c.row-item.result _ c.loop-index-test.true c.row-item.is (omega arith) c.in_default.ensures c.loop-index.invariant

pub returns : goal.returns
returns c =
    end (bracket_row_rejection c.args.network.now c.args.table.now) 1 c.loop-index.index c.rows-row-items.result.now _ c.loop-index-test.false c.loop-index.invariant
    ∙ ap (λ (rows : List BracketRow). first_cause (bracket_row_rejection c.args.network.now c.args.table.now) 1 rows) c.rows-row-items.ensures.value
