use Rattle.std.proofs.Common.{◌≡◌, ◌+◌, suc, ap, arith}
use Rattle.sota_kept.specs.LeastTime.{time_below}
use Rattle.sota_kept.proofs.least_time.LeastTime.some.Goals as goal

pub returns : goal.returns
returns c =
    let next : c.args.time + 1 ≡ suc c.args.time = omega arith in
    ap time_below next
