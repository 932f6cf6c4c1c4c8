-- What the plain planner knows at one budget, before the next.
use Rattle.std.specs.Prelude.{ℕ, ◌-◌, ◌==◌, List, slice_index_or, Option, None, if◌then◌else◌}
use Rattle.sota_units.specs.Rounding.{ONE, floor_by, ceiling_by}
use Rattle.sota_network.specs.Grid.{plain_sum, best_of, choice_of}
use Rattle.sota_network.specs.GridView.{in_table}
use Rattle.sota_network.specs.Numbers.{listed}
use Rattle.sota_network.specs.declared.network.Arc.{Arc}
use Rattle.sota_network.specs.declared.plain.Best.{Best}
use Rattle.sota_network.specs.declared.plain.Rounding.{Rounding}
use Rattle.sota_network.specs.declared.plain.Rounding.TheVariants.{Down, Up}

-- the plain sum of an arc over a table of the values at smaller budgets
abbrev pub table_sum : List ℕ → ℕ → ℕ → Arc → ℕ
table_sum values nodes t arc = plain_sum arc (in_table values nodes) t

-- for each node the greatest worth among the arcs that leave it, and the first arc that has it
abbrev pub bests_of : ℕ → List Arc → (Arc → ℕ) → List Best
bests_of nodes arcs worth =
    listed (λ i. record { sum = best_of arcs worth i; arc = choice_of arcs worth i }) nodes

-- no arc
abbrev pub no_best : Best
no_best = record { sum = 0; arc = None }

-- the rounding of a sum to a value
abbrev pub rounded : Rounding → ℕ → ℕ → ℕ
rounded Down = floor_by
rounded Up = ceiling_by

-- the value of node i
abbrev pub settled : Rounding → ℕ → ℕ → List Best → ℕ → ℕ
settled rounding scale dest bests i =
    if i == dest then ONE else rounded rounding scale (slice_index_or bests (i - 1) no_best).sum

-- the choice of node i
abbrev pub chosen : ℕ → List Best → ℕ → Option ℕ
chosen dest bests i = if i == dest then None else (slice_index_or bests (i - 1) no_best).arc
