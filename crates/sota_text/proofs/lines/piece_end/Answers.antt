use Rattle.std.proofs.Common.{arith}
use Rattle.sota_text.specs.Text.{is_line_end}
use Rattle.sota_text.proofs.Parts.{EndsAt}
use Rattle.sota_text.proofs.LineEnds.{inner_piece, last_piece}
use Rattle.sota_text.proofs.lines.piece_end.Goals as goal

pub returns-else-bytes-at-ne10-clause-first : goal.returns-else-bytes-at-ne10-clause-first
returns-else-bytes-at-ne10-clause-first c =
    let ends : EndsAt is_line_end c.args.bytes.now c.args.start c.loop-at.at =
    record { order = c.loop-at.invariant.within_start; inside = c.loop-at.invariant.within_end; none = c.loop-at.invariant.piece; passes = λ _. grind arith } in
    inner_piece c.args.bytes.now c.args.start c.loop-at.at ends c.loop-at-test.true

pub returns-after-loop-at-clause-first : goal.returns-after-loop-at-clause-first
returns-after-loop-at-clause-first c =
    let ends : EndsAt is_line_end c.args.bytes.now c.args.start c.loop-at.at =
    record { order = c.loop-at.invariant.within_start; inside = c.loop-at.invariant.within_end; none = c.loop-at.invariant.piece; passes = λ inside. absurd (omega arith) } in
    last_piece c.args.bytes.now c.args.start c.loop-at.at ends c.requires (omega arith)
