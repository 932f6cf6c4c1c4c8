use Rattle.std.proofs.Common.{ℕ, ◌≡◌, ◌+◌, take, length, sym, subst, arith}
use Rattle.sota_fill.specs.Fills.{CanSum}
use Rattle.sota_fill.proofs.Summed.{take-long}
use Rattle.sota_fill.proofs.bests.add_upper.Goals as goal

pub sums_of-requires : goal.sums_of-requires
sums_of-requires g c =
    let long : length (take c.args.count c.args.part.now.sums) ≡ c.args.count = take-long c.args.count c.args.part.now.sums (omega (arith, c.requires.count.1)) in
    subst (λ (n : ℕ). CanSum g.Z.Summer.state c.args.sources.now c.args.number c.args.from (c.args.from + n)) (sym long) c.requires.sum
