use Rattle.std.proofs.Common.{◌∙◌, arith}
use Rattle.sota_online.proofs.Parts.{crossed_is}
use Rattle.sota_online.proofs.sums.eight_sums.Goals as goal

pub returns-then-masses-from-clause-sums : goal.returns-then-masses-from-clause-sums
returns-then-masses-from-clause-sums c = λ k below.
    c.crossed_sums.ensures.sums k (omega arith) ∙ crossed_is c.args.masses.now c.args.values.now c.args.from k c.requires.positive c.if-masses-from.true
