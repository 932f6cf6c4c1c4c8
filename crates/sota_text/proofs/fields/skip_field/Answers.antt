use Rattle.std.proofs.Common.{sym, arith}
use Rattle.sota_text.specs.Text.{is_blank}
use Rattle.sota_text.proofs.Parts.{EndsAt}
use Rattle.sota_text.proofs.Places.{last_field, inner_field}
use Rattle.sota_text.proofs.fields.skip_field.Goals as goal

pub returns-else-not-is_blank-clause-first : goal.returns-else-not-is_blank-clause-first
returns-else-not-is_blank-clause-first c =
    let ends : EndsAt is_blank c.args.line.now c.args.start c.loop-at.at =
    record { order = omega arith; inside = c.loop-at.invariant.within_end; none = c.loop-at.invariant.field; passes = λ _. sym c.if-not-is_blank.ensures } in
    inner_field c.args.line.now c.args.start c.loop-at.at ends c.loop-at.invariant.within_start c.loop-at-test.true

pub returns-after-loop-at-clause-first : goal.returns-after-loop-at-clause-first
returns-after-loop-at-clause-first c =
    let ends : EndsAt is_blank c.args.line.now c.args.start c.loop-at.at =
    record { order = omega arith; inside = c.loop-at.invariant.within_end; none = c.loop-at.invariant.field; passes = λ inside. absurd (omega arith) } in
    last_field c.args.line.now c.args.start c.loop-at.at ends c.loop-at.invariant.within_start (omega arith)
