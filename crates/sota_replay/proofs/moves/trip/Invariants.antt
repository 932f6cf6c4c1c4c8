use Rattle.std.proofs.Common.{◌≡◌, ◌≤◌}
use Rattle.sota_replay.specs.Trip.{trip_from}
use Rattle.sota_replay.proofs.moves.trip.Given as goal

-- the trip that is left ends as the whole one
abbrev pub invariant-loop-node : goal.invariant-loop-node
invariant-loop-node l = record {
  budget : l.left ≤ l.head.budget;
  rest : trip_from l.network l.table l.node l.left l.words ≡ trip_from l.network l.table l.head.origin l.head.budget l.initial.words;
}

-- each traversal takes a tick at least
abbrev pub decreases-loop-node : goal.decreases-loop-node
decreases-loop-node l = l.left
