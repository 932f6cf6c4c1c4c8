use Rattle.std.proofs.Common.{refl, ◌∙◌}
use Rattle.sota_block.proofs.eights.eight_sums.Goals as goal

pub returns : goal.returns
returns c = λ j below. c.crossed_sums.ensures.sums j below ∙ c.window-place.ensures.same (λ v. v) j refl below
