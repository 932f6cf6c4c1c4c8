use Rattle.std.proofs.Common.{◌≡◌, ◌+◌, drop, None}
use Rattle.sota_route.specs.Faults.{leg_fault}
use Rattle.sota_route.proofs.fault.find_leg_fault.Given as goal

abbrev pub invariant-loop-index : goal.invariant-loop-index
invariant-loop-index l =
    leg_fault l.network l.dest l.at (l.index + 1) (drop l.index l.route)
    ≡ leg_fault l.network l.dest None 1 l.route
