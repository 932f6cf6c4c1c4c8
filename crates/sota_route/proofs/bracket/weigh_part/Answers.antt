use Rattle.std.proofs.Common.{◌+◌, ◌<◌, length, ◌∙◌, ap, arith}
use Rattle.std.proofs.lemmas.Grind.{common_steps}
use Rattle.sota_sums.specs.Bounds.{rounded_in}
use Rattle.sota_route.proofs.Weighing.{plain-sum, plain-small}
use Rattle.sota_route.proofs.bracket.weigh_part.Goals as goal

pub round-requires-clause-small : goal.round-requires-clause-small
round-requires-clause-small c = λ x less.
    let inside : x < length c.args.sums.now = omega (arith, c.arc_sums.ensures.room) in
    let is = c.arc_sums.ensures.sums x inside ∙ plain-sum c.sums_and_scores.ensures.sums c.args.values.now (c.args.from + x) c.args.time.now c.requires.rises in
    rw is (plain-small c.sums_and_scores.ensures.sums c.args.values.now (c.args.from + x) c.args.scale c.args.time.now c.requires.rises c.requires.total (λ u under. c.requires.whole u (omega arith)))

pub returns-clause-value : goal.returns-clause-value
returns-clause-value c = λ x less.
    let inside : x < length c.arc_sums.new.into = omega (arith, c.arc_sums.ensures.room) in
    let is = c.arc_sums.ensures.sums x less ∙ plain-sum c.sums_and_scores.ensures.sums c.args.values.now (c.args.from + x) c.args.time.now c.requires.rises in
    let value = c.round.ensures.values x inside ∙ ap (rounded_in c.args.bound c.args.scale) is in
    grind (arith, common_steps, value, c.round.ensures.room, c.arc_sums.ensures.room, c.requires.room)
