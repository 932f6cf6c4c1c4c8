use Rattle.std.proofs.Common.{arith}
use Rattle.std.proofs.lemmas.Grind.{common_steps}
use Rattle.sota_block.proofs.fold.add_middle.Goals as goal

pub returns-clause-third : goal.returns-clause-third
returns-clause-third c = λ i early.
    let added = c.loop-i.invariant.third i (omega arith) in
    grind (arith, common_steps)
