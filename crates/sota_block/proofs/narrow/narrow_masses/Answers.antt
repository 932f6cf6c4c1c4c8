use Rattle.std.proofs.Common.{rules, ℕ, ◌^◌, ◌<◌, get_or, arith}
use Rattle.std.proofs.lemmas.List.Sums.{get_or-le-sum_by}
use Rattle.sota_block.proofs.narrow.narrow_masses.Goals as goal

pub overflow_cast-into : goal.overflow_cast-into
overflow_cast-into c =
    let one = get_or-le-sum_by (λ (x : ℕ). x) c.args.masses.now c.loop-i.i 0 c.loop-i-test.true in
    let fits : get_or c.args.masses.now c.loop-i.i 0 < 2 ^ 32 = omega (arith, one, c.requires.few) in
    search rules
