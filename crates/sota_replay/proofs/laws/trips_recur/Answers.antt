use Rattle.sota_replay.proofs.Steps.{trip_from-is}
use Rattle.sota_replay.proofs.laws.trips_recur.Goals as goal

pub returns : goal.returns
returns c = λ net table i t words valid. trip_from-is net table (λ e arc is. c.arcs_by_number.ensures net e arc valid is) i t words
