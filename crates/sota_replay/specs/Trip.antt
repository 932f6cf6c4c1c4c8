-- A trip: who follows the arcs of a policy, where each time that an arc takes is drawn.
use Rattle.std.specs.Prelude.{ℕ, ◌-◌, ◌==◌, nat_le, Option, None, Some}
use Rattle.std.specs.Prelude.{option_and_then, if◌then◌else◌}
use Rattle.rand_pcg.specs.Lcg.{Lcg}
use Rattle.sota_words.specs.Drawn.{drawn}
use Rattle.sota_hist.specs.Time.{picked}
use Rattle.sota_network.specs.Network.{Net, arc_at}
use Rattle.sota_network.specs.Grid.{by_budget}
use Rattle.sota_network.specs.declared.network.Arc.{Arc}
use Rattle.sota_polfile.specs.Table.{Table}
use Rattle.sota_check.specs.Certified.{rule}
use Rattle.sota_replay.specs.declared.ending.Ending.{Ending}
use Rattle.sota_replay.specs.declared.ending.Ending.TheVariants.{Arrived, Late, NoChoice, Lost}

-- the arc to take from node i with t ticks left: none where the policy has no entry, or an entry
-- with the arc 0, since no arc has that number
abbrev pub road : Net → Table → ℕ → ℕ → Option Arc
road net table i t = option_and_then (arc_at net) (rule table i t)

-- how trips from a node with so many ticks left end, by the words to come, and the words after it
abbrev pub Trips : Type 0
Trips = ℕ → ℕ → Lcg → Ending × Lcg

-- an arc is taken with t ticks left, and the draw picks the first tick whose cumulated mass exceeds
-- it. Where mass is missing it may pick none: then the traversal never ends
abbrev pub move : Trips → Arc → ℕ → ℕ × Lcg → Ending × Lcg
move f arc t draw = elim (picked draw.0 arc.time) [
  | None ↦ (Lost, draw.1)
  | Some tick ↦ (if nat_le tick t then f arc.head (t - tick) draw.1 else (Late, draw.1))
]

-- a trip from node i with t ticks left, where `f` has those with less left. One word is drawn for
-- each arc that is taken, and none where no arc is
abbrev pub trip_step : Net → Table → Trips → ℕ → ℕ → Lcg → Ending × Lcg
trip_step net table f i t words =
    if i == table.head.dest then (Arrived (table.head.budget - t), words) else
    elim (road net table i t) [
      | None ↦ (NoChoice, words)
      | Some arc ↦ move f arc t (drawn net.scale words)
    ]

-- a trip from node i with t ticks left
unfoldable pub trip_from : Net → Table → Trips
trip_from net table i t = by_budget (λ words. (Late, words)) (trip_step net table) i t

-- a trip of the policy: from its origin with its whole budget
abbrev pub trip : Net → Table → Lcg → Ending × Lcg
trip net table words = trip_from net table table.head.origin table.head.budget words
