-- Which nodes are reached within a budget, as a function that computes. `reaches_by_walks` says
-- what it has to do with walks.
use Rattle.std.specs.Prelude.{ℕ, ◌-◌, ◌==◌, ◌&&◌, ◌||◌, not, nat_le, Bool, false}
use Rattle.std.specs.List.{list_any}
use Rattle.sota_hist.specs.Time.{is_closed, least_tick}
use Rattle.sota_network.specs.Network.{Net}
use Rattle.sota_network.specs.Grid.{by_budget}
use Rattle.sota_network.specs.declared.network.Arc.{Arc}

-- an open arc that leaves node i, where i is not the destination, and is taken in its least time,
-- with `f` from its head on
abbrev pub goes_on : ℕ → (ℕ → ℕ → Bool) → ℕ → ℕ → Arc → Bool
goes_on dest f i t arc =
    (arc.tail == i)
    && (not (arc.tail == dest)
    && (not (is_closed arc.time)
    && (nat_le (least_tick arc.time) t && f arc.head (t - least_tick arc.time))))

-- node i is node j, or an arc goes on from it
abbrev pub reach_step : Net → ℕ → ℕ → (ℕ → ℕ → Bool) → ℕ → ℕ → Bool
reach_step net dest j f i t = (i == j) || list_any (goes_on dest f i t) net.arcs

-- a walk from node i to node j takes at most t ticks, each arc in its least time
unfoldable pub reaches : Net → ℕ → ℕ → ℕ → ℕ → Bool
reaches net dest j i t = by_budget false (reach_step net dest j) i t

-- node i with t ticks left belongs to the region of an ask: the destination can be reached in time,
-- and an origin that began with the whole budget can have come so far. Nothing else can matter to
-- the ask
abbrev pub in_region : Net → ℕ → ℕ → ℕ → ℕ → ℕ → Bool
in_region net origin dest last i t =
    not (i == dest)
    && (nat_le t last && (reaches net dest dest i t && reaches net dest i origin (last - t)))
