use Rattle.std.proofs.Common.{suc, ◌-◌, length, arith}
use Rattle.sota_block.specs.Product.{FOLDED_LIMIT}
use Rattle.sota_block.proofs.Limits.{weighed-le, sum-le-limit}
use Rattle.sota_block.proofs.wide.crossed.Goals as goal

pub overflow_mul-sum : goal.overflow_mul-sum
overflow_mul-sum g c =
    let all = weighed-le FOLDED_LIMIT (suc c.loop-b.b) c.args.masses.now c.args.values.now (λ b. length c.args.masses.now - 1 - b) c.requires.values in
    rw c.from.ensures (omega (arith, all, sum-le-limit FOLDED_LIMIT c.args.masses.now c.requires.masses))

pub overflow_add-sum : goal.overflow_add-sum
overflow_add-sum g c =
    let all = weighed-le FOLDED_LIMIT (suc c.loop-b.b) c.args.masses.now c.args.values.now (λ b. length c.args.masses.now - 1 - b) c.requires.values in
    rw c.from.ensures (omega (arith, all, sum-le-limit FOLDED_LIMIT c.args.masses.now c.requires.masses))
