use Rattle.std.proofs.Common.{◌≡◌}
use Rattle.sota_replay.specs.Tally.{trip_count, trips}
use Rattle.sota_replay.proofs.tally.trips.Given as goal

abbrev pub invariant-loop-trip : goal.invariant-loop-trip
invariant-loop-trip l = record {
  value : (l.tally, l.words) ≡ trips l.network l.table l._trip l.initial.words;
  whole : trip_count l.tally ≡ l._trip;
}
