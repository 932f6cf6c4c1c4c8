use Rattle.std.proofs.Common.{◌≤◌, sym, arith}
use Rattle.sota_replay.proofs.Steps.{picked_positive}
use Rattle.sota_replay.proofs.moves.trip.Goals as goal

pub loop-node-smaller : goal.loop-node-smaller
loop-node-smaller c =
    let some : 1 ≤ c.in-Some-pick.tick = picked_positive _ _ c.in-Some.arc.now.time c.in-Some.ensures.valid (sym c.in-Some-pick.ensures.value) in
    omega arith
