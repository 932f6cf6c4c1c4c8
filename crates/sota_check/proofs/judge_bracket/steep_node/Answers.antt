use Rattle.std.proofs.Common.{ap, ◌∙◌}
use Rattle.sota_check.specs.BracketRejected.{is_steep, steep_node}
use Rattle.sota_check.proofs.Steep.{least_tail, ends}
use Rattle.sota_check.proofs.judge_bracket.steep_node.Goals as goal

pub returns : goal.returns
unfolding steep_node
returns c =
    ends (is_steep c.args.table.now) c.loop-arc.least c.loop-arc.arc-index c.arcs-arc-items.result.now _ c.loop-arc-test.false c.loop-arc.invariant
    ∙ ap (least_tail (is_steep c.args.table.now)) c.arcs-arc-items.ensures.value
