-- The grid of a network whose times depend on the clock: at each budget the pairs of an arc are
-- those that hold when so much is left.
use Rattle.std.specs.Prelude.{ℕ, ◌==◌, Option, None, if◌then◌else◌}
use Rattle.sota_units.specs.Rounding.{floor_by, ceiling_by}
use Rattle.sota_network.specs.Grid.{by_budget, value_from, choice_of, plain_sum}
use Rattle.sota_period.specs.Periods.{TimedNet}

-- the value of node i at budget t, where `f` has the values at smaller budgets
abbrev pub timed_step : (ℕ → ℕ → ℕ) → TimedNet → ℕ → (ℕ → ℕ → ℕ) → ℕ → ℕ → ℕ
timed_step round net dest f i t = value_from round (net.at t) dest f i t

-- the values with a rounding
unfoldable pub timed_value : (ℕ → ℕ → ℕ) → TimedNet → ℕ → ℕ → ℕ → ℕ
timed_value round net dest i t = by_budget 0 (timed_step round net dest) i t

-- the lower value and the upper value
abbrev pub tlo : TimedNet → ℕ → ℕ → ℕ → ℕ
tlo net dest i t = timed_value floor_by net dest i t

abbrev pub thi : TimedNet → ℕ → ℕ → ℕ → ℕ
thi net dest i t = timed_value ceiling_by net dest i t

-- the arc to take from node i at budget t, by the lower values: none at the destination
abbrev pub tchoice : TimedNet → ℕ → ℕ → ℕ → Option ℕ
tchoice net dest i t =
    if i == dest then None else
    choice_of (net.at t).arcs (λ arc. plain_sum arc (tlo net dest) t) i
