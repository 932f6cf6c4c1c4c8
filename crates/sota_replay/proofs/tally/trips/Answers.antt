use Rattle.std.proofs.Common.{◌∙◌, ap, arith}
use Rattle.sota_replay.specs.Tally.{trip_count}
use Rattle.sota_replay.proofs.Tallies.{no-trips, trips-none, trips-more, count-more}
use Rattle.sota_replay.proofs.tally.trips.Goals as goal

pub loop-trip-init : goal.loop-trip-init
loop-trip-init c = record {
  value = trips-none c.args.network.now c.args.table.now c.default-tally.result c.args.words.now (no-trips c.default-tally.result c.default-tally.ensures);
  whole = ap trip_count (no-trips c.default-tally.result c.default-tally.ensures);
}

pub loop-trip-preserved : goal.loop-trip-preserved
loop-trip-preserved c =
    let more = trips-more c.args.network.now c.args.table.now c.loop-trip._trip c.args.words.now c.loop-trip.tally c.loop-trip.words c.trip.result c.trip.new.words c.loop-trip.invariant.value c.trip.ensures in
    record {
      value = rw c.count.ensures more;
      whole = ap trip_count c.count.ensures ∙ count-more c.trip.result c.loop-trip.tally ∙ (omega (arith, c.loop-trip.invariant.whole));
    }
