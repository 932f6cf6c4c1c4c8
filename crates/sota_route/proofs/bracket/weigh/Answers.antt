use Rattle.std.proofs.Common.{◌≡◌, ◌+◌, ◌-◌, length, take, ◌∙◌, arith}
use Rattle.std.proofs.lemmas.Grind.{common_steps}
use Rattle.sota_sums.specs.Bounds.{rounded_in}
use Rattle.sota_route.proofs.Weighing.{taken-back}
use Rattle.sota_route.proofs.bracket.weigh.Goals as goal

pub loop-end-preserved : goal.loop-end-preserved
loop-end-preserved c =
    let room : length (take c.min-count.result c.loop-end.sums) ≡ c.min-count.result =
    grind (arith, common_steps, c.min-count.array_long, c.min-count.ensures) in
    let back : c.loop-end.end - c.min-count.result + c.min-count.result ≡ c.loop-end.end = omega (arith, c.min-count.ensures) in
    record {
      length_is = c.weigh_part.ensures.length ∙ c.loop-end.invariant.length_is;
      within = omega (arith, c.loop-end.invariant.within);
      before = λ u less. c.weigh_part.ensures.before u less ∙ c.loop-end.invariant.before u (omega arith);
      after = taken-back c.sums_and_scores.ensures.sums (rounded_in c.args.bound c.args.scale) c.args.time.now c.requires.rises c.args.values.now c.loop-end.values c.weigh_part.new.values (c.loop-end.end - c.min-count.result) c.loop-end.end (length c.args.values.now)
          (omega arith)
          (λ x less. c.weigh_part.ensures.value x (omega (arith, room, back)))
          (λ u past. c.weigh_part.ensures.after u (omega (arith, room, back)))
          c.loop-end.invariant.before
          c.loop-end.invariant.after;
    }
