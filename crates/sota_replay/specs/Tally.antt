-- How often trips end in each way.
use Rattle.std.specs.Prelude.{ℕ, zero, suc, ◌+◌}
use Rattle.rand_pcg.specs.Lcg.{Lcg}
use Rattle.sota_words.specs.Drawn.{words_of}
use Rattle.sota_network.specs.Network.{Net}
use Rattle.sota_polfile.specs.Table.{Table}
use Rattle.sota_replay.specs.Trip.{trip}
use Rattle.sota_replay.specs.declared.ending.Ending.{Ending}
use Rattle.sota_replay.specs.declared.ending.Ending.TheVariants.{Arrived, Late, NoChoice, Lost}
use Rattle.sota_replay.specs.declared.tally.Tally.{Tally}

-- no trip yet
abbrev pub no_trips : Tally
no_trips = record { arrived = 0; late = 0; stuck = 0; lost = 0 }

-- one trip more, which ends so
abbrev pub tallied : Ending → Tally → Tally
tallied (Arrived spent) tally = record tally { arrived = tally.arrived + 1 }
tallied Late tally = record tally { late = tally.late + 1 }
tallied NoChoice tally = record tally { stuck = tally.stuck + 1 }
tallied Lost tally = record tally { lost = tally.lost + 1 }

-- how many trips there are
abbrev pub trip_count : Tally → ℕ
trip_count tally = tally.arrived + tally.late + tally.stuck + tally.lost

-- the tally of so many trips by the words to come, and the words after them: each trip begins at
-- the word after the last one of the trip before
unfoldable pub trips : Net → Table → ℕ → Lcg → Tally × Lcg
trips net table zero words = (no_trips, words)
trips net table (suc count) words =
    let before = trips net table count words in
    let last = trip net table before.1 in
    (tallied last.0 before.0, last.1)

-- the tally of so many trips by the words of a seed
abbrev pub tally_after : Net → Table → ℕ → ℕ → Tally
tally_after net table count seed = (trips net table count (words_of seed)).0
