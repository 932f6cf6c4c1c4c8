-- What a search for least times has found, in either direction.
use Rattle.std.specs.Prelude.{ℕ, ◌-◌, ◌+◌, ◌*◌, ◌<◌, ◌==◌, ◌||◌, List, slice_index_or}
use Rattle.std.specs.Prelude.{Option, None, Some, if◌then◌else◌}
use Rattle.std.specs.List.{filter_map}
use Rattle.std.specs.Option.{is_some, option_and_then}
use Rattle.std.specs.Ordering.{nat_cmp, ordering_then}
use Rattle.std.specs.declared.cmp.Ordering.{Ordering}
use Rattle.sota_units.specs.Limits.{NODE_LIMIT, TICK_LIMIT}
use Rattle.sota_hist.specs.Time.{is_closed, least_tick}
use Rattle.sota_network.specs.Network.{Net, arc_at}
use Rattle.sota_network.specs.Numbers.{numbers}
use Rattle.sota_network.specs.Walks.{Walk, IsLeastTime}
use Rattle.sota_network.specs.declared.network.Arc.{Arc}
use Rattle.sota_bounds.specs.declared.search.Direction.{Direction}
use Rattle.sota_bounds.specs.declared.search.Direction.TheVariants.{Along, Against}
use Rattle.sota_bounds.specs.declared.search.Visit.{Visit}

-- a search goes over an arc from this end
abbrev pub source_of : Direction → Arc → ℕ
source_of Along arc = arc.tail
source_of Against arc = arc.head

-- to this end
abbrev pub target_of : Direction → Arc → ℕ
target_of Along arc = arc.head
target_of Against arc = arc.tail

-- the arcs over which a search leaves a node
abbrev pub arcs_at : Direction → Net → ℕ → List ℕ
arcs_at direction net node = numbers (λ arc. source_of direction arc == node) 1 net.arcs

-- the time that is settled for node i
abbrev pub time_at : List (Option ℕ) → ℕ → Option ℕ
time_at times i = slice_index_or times (i - 1) None

-- no least time is more: a walk of that time comes to no node twice, so it has fewer arcs than
-- there are nodes
abbrev pub TIME_LIMIT : ℕ
TIME_LIMIT = NODE_LIMIT * TICK_LIMIT

-- the visit one arc further
abbrev pub further : Direction → Visit → Arc → Visit
further direction visit arc =
    record {
      time = record { 0 = visit.time.0 + least_tick arc.time };
      node = target_of direction arc;
    }

-- the visit to which a settled one leads over an arc: none where the arc leaves the destination or
-- is closed, or its end is settled
abbrev pub next_visit : Direction → ℕ → Visit → List (Option ℕ) → Arc → Option Visit
next_visit direction dest visit times arc =
    if (arc.tail == dest)
    || (is_closed arc.time || is_some (time_at times (target_of direction arc)))
    then None else Some (further direction visit arc)

-- those over all arcs at its node
abbrev pub next_visits : Net → Direction → ℕ → Visit → List (Option ℕ) → List Visit
next_visits net direction dest visit times =
    filter_map (λ e. option_and_then (next_visit direction dest visit times) (arc_at net e))
    (arcs_at direction net visit.node)

-- the earlier visit is the greater one, and of two at one time that to the greater node
abbrev pub by_time : Visit → Visit → Ordering
by_time v w = ordering_then (nat_cmp w.time.0 v.time.0) (nat_cmp v.node w.node)

-- the least time between the source and node i
abbrev pub IsLeastBetween : Net → ℕ → Direction → ℕ → ℕ → Option ℕ → Type 0
IsLeastBetween net dest Along source i time = IsLeastTime net dest source i time
IsLeastBetween net dest Against source i time = IsLeastTime net dest i source time

-- a walk between the source and node i
abbrev pub Joins : Net → ℕ → Direction → ℕ → ℕ → ℕ → Type 0
Joins net dest Along source i n = Walk net dest source i n
Joins net dest Against source i n = Walk net dest i source n

-- more than the most: nothing is where there is no most
abbrev pub IsBeyond : Option ℕ → ℕ → Type 0
IsBeyond None n = ⊥
IsBeyond (Some most) n = most < n

-- what a search for times of at most so much has found between the source and node i: the least
-- time, or none where each walk takes more
abbrev pub IsFoundBetween : Option ℕ → Net → ℕ → Direction → ℕ → ℕ → Option ℕ → Type 0
IsFoundBetween most net dest direction source i None =
    (n : ℕ) → Joins net dest direction source i n → IsBeyond most n
IsFoundBetween most net dest direction source i (Some n) =
    IsLeastBetween net dest direction source i (Some n)
