-- How large the region of an ask is: `origin` to `dest` with the budget `last`.
use Rattle.std.specs.Prelude.{ℕ, suc, ◌≢◌, ◌≤◌, ◌+◌, ◌-◌, ◌&&◌, nat_le, nat_lt, List, length, map}
use Rattle.std.specs.Prelude.{Bool, false, Option, Some, if◌then◌else◌}
use Rattle.std.specs.List.{count_by, filter, range_with_len, sum, sum_by}
use Rattle.sota_hist.specs.Time.{within, span}
use Rattle.sota_network.specs.Network.{Net, IsNode}
use Rattle.sota_network.specs.Numbers.{listed}
use Rattle.sota_network.specs.Grid.{greatest}
use Rattle.sota_network.specs.Walks.{IsLeastTime}
use Rattle.sota_network.specs.Reach.{in_region}
use Rattle.sota_network.specs.declared.network.Arc.{Arc}

-- the budgets from 0 to the last
abbrev pub budgets : ℕ → List ℕ
budgets last = range_with_len 0 (last + 1)

-- the number of pairs of node i and a budget in the region
unfoldable pub pairs_at : Net → ℕ → ℕ → ℕ → ℕ → ℕ
pairs_at net origin dest last i = count_by (λ t. in_region net origin dest last i t) (budgets last)

-- the need of node i: one more than the greatest budget of its pairs, 0 where it has none
unfoldable pub need : Net → ℕ → ℕ → ℕ → ℕ → ℕ
need net origin dest last i =
    greatest (map suc (filter (λ t. in_region net origin dest last i t) (budgets last)))

-- the number of all pairs
abbrev pub table_cells : Net → ℕ → ℕ → ℕ → ℕ
table_cells net origin dest last = sum (listed (λ i. pairs_at net origin dest last i) net.nodes)

-- an arc with more pairs than these within the budget is broad, where its tail has a pair in the
-- region
abbrev pub NARROW : ℕ
NARROW = 32

-- what an arc with so many pairs at its tail adds to the broad cells
abbrev pub broad_at : ℕ → ℕ → Arc → ℕ
broad_at last pairs arc =
    if nat_lt 0 pairs && nat_lt NARROW (length (within last arc.time))
    then pairs + span (within last arc.time)
    else 0

-- the broad cells: for each broad arc the pairs of its tail and the span of its ticks within the
-- budget
abbrev pub broad_cells : Net → ℕ → ℕ → ℕ → ℕ
broad_cells net origin dest last =
    sum_by (λ arc. broad_at last (pairs_at net origin dest last arc.tail) arc) net.arcs

-- a node with a pair in the region is no destination, and both its least times are numbers: they
-- leave it a budget
pub record HasLeastTimes (net : Net) (origin dest last i : ℕ) : Type 0 where
  pub node : IsNode net i
  pub elsewhere : i ≢ dest
  pub to : ℕ
  pub onward : IsLeastTime net dest i dest (Some to)
  pub from : ℕ
  pub came : IsLeastTime net dest origin i (Some from)
  pub within : to + from ≤ last

-- ---- the same by the least times of a node: `to` the destination and `from` the origin.
-- `region_by_least_times` says so

-- the budget is at least the time to the destination, and at most what the time from the origin
-- leaves of the last
abbrev pub is_between : ℕ → Option ℕ → Option ℕ → ℕ → Bool
is_between last (Some to) (Some from) t = nat_le to t && nat_le (t + from) last
is_between last _ _ t = false

-- the number of such budgets
abbrev pub pairs_between : ℕ → Option ℕ → Option ℕ → ℕ
pairs_between last (Some to) (Some from) = last + 1 - (to + from)
pairs_between last _ _ = 0

-- one more than the greatest of them, 0 where there is none
abbrev pub need_between : ℕ → Option ℕ → Option ℕ → ℕ
need_between last (Some to) (Some from) = if nat_le (to + from) last then last + 1 - from else 0
need_between last _ _ = 0
