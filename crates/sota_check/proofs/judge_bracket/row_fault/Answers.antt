use Rattle.std.proofs.Common.{refl}
use Rattle.sota_check.specs.BracketRejected.{bracket_entry_fault}
use Rattle.sota_check.proofs.Loops.{pass_at, stop_at, end}
use Rattle.sota_check.proofs.judge_bracket.row_fault.Goals as goal

pub returns-in-Some : goal.returns-in-Some
returns-in-Some c =
    rw (← c.as_slice-entry-items.ensures.value)
    (stop_at (bracket_entry_fault c.args.network.now c.args.table.now c.args.node) c.args.row.now.first c.loop-index.index _ c.as_slice-entry-items.result.now _ c.in-Some.fault _ c.loop-index-test.true refl c.in-Some.ensures c.loop-index.invariant)

pub loop-index-preserved : goal.loop-index-preserved
loop-index-preserved c =
    pass_at (bracket_entry_fault c.args.network.now c.args.table.now c.args.node) c.args.row.now.first c.loop-index.index _ c.as_slice-entry-items.result.now _ _ c.loop-index-test.true refl c.in_default.ensures c.loop-index.invariant

pub returns : goal.returns
returns c =
    rw (← c.as_slice-entry-items.ensures.value)
    (end (bracket_entry_fault c.args.network.now c.args.table.now c.args.node) c.args.row.now.first c.loop-index.index c.as_slice-entry-items.result.now _ c.loop-index-test.false c.loop-index.invariant)
