-- What tables keep of one node, and what may be done to it.
use Rattle.std.specs.Prelude.{ℕ, zero, suc, ◌≡◌, ◌≢◌, ◌+◌, ◌-◌, ◌<◌, ◌≤◌, ◌⊎◌, ◌==◌, min, max}
use Rattle.std.specs.Prelude.{nat_le, nat_lt, Bool, false, List, [], ◌∷◌, ◌++◌, length, take}
use Rattle.std.specs.Prelude.{slice_index, slice_index_or, Option, None, Some, if◌then◌else◌}
use Rattle.sota_units.specs.Rounding.{ONE, floor_by, ceiling_by}
use Rattle.sota_hist.specs.Time.{is_closed, least_tick}
use Rattle.sota_network.specs.Network.{Net, IsNode, arc_at}
use Rattle.sota_network.specs.declared.network.Arc.{Arc}
use Rattle.sota_network.specs.Grid.{lo, hi, choice, best_sum, choice_of, plain_sum}
use Rattle.sota_kept.specs.Ticks.{END_LIMIT, least_to}

-- the entries of a node at the budgets from the base up to the front
pub record NodeTable : Type 0 where
  pub front : ℕ
  pub base : ℕ
  pub lower : List ℕ
  pub upper : List ℕ
  pub choices : List (Option ℕ)

-- one entry
pub record Entry : Type 0 where
  pub lower : ℕ
  pub upper : ℕ
  pub choice : Option ℕ

-- rows as long as the front says, within the limit
pub record IsNodeTable (s : NodeTable) : Type 0 where
  pub front : s.front ≤ END_LIMIT
  pub base : s.base ≤ END_LIMIT
  pub lower : length s.lower ≡ s.front - s.base
  pub upper : length s.upper ≡ s.front - s.base
  pub choices : length s.choices ≡ s.front - s.base

-- below this budget all is known
abbrev pub known_end : NodeTable → ℕ
known_end s = max s.front s.base

-- what is answered at a budget: 0 and none where there is no entry
abbrev pub lower_of : NodeTable → ℕ → ℕ
lower_of s t = if nat_lt t s.base then 0 else slice_index s.lower (t - s.base)

abbrev pub upper_of : NodeTable → ℕ → ℕ
upper_of s t = if nat_lt t s.base then 0 else slice_index s.upper (t - s.base)

abbrev pub next_of : NodeTable → ℕ → Option ℕ
next_of s t = if nat_lt t s.base then None else slice_index_or s.choices (t - s.base) None

-- and at any node: who stands at the destination has arrived
abbrev pub lower_in : ℕ → (ℕ → NodeTable) → ℕ → ℕ → ℕ
lower_in dest tables i t = if i == dest then ONE else lower_of (tables i) t

abbrev pub upper_in : ℕ → (ℕ → NodeTable) → ℕ → ℕ → ℕ
upper_in dest tables i t = if i == dest then ONE else upper_of (tables i) t

-- ---- what is kept is right
-- the entries of a node that is not the destination are those of the grid, which is 0 below the
-- base as far as the front says. And the base is not above the least time, or the front is not: so
-- no budget at which the grid is positive lacks an entry below the front
pub record IsKeptAt (net : Net) (dest i : ℕ) (s : NodeTable) : Type 0 where
  pub shape : IsNodeTable s
  pub lower : (t : ℕ) → s.base ≤ t → t < s.front → lower_of s t ≡ lo net dest i t
  pub upper : (t : ℕ) → s.base ≤ t → t < s.front → upper_of s t ≡ hi net dest i t
  pub choice : (t : ℕ) → s.base ≤ t → t < s.front → next_of s t ≡ choice net dest i t
  pub below : (t : ℕ) → t < min s.base s.front → (lo net dest i t ≡ 0) × (hi net dest i t ≡ 0)
  pub least : (s.base ≤ least_to net dest i) ⊎ (s.front ≤ least_to net dest i)

-- besides, the grid is 0 at each budget without an entry below the known end: those are the budgets
-- below the base
pub record IsSettledAt (net : Net) (dest i : ℕ) (s : NodeTable) : Type 0 where
  pub kept : IsKeptAt net dest i s
  pub empty : (t : ℕ) → t < s.base → (lo net dest i t ≡ 0) × (hi net dest i t ≡ 0)

-- ready to be filled: where the front is not above the least time, that is the base
pub record IsReadyAt (net : Net) (dest i : ℕ) (s : NodeTable) : Type 0 where
  pub settled : IsSettledAt net dest i s
  pub based : s.front ≤ least_to net dest i → s.base ≡ least_to net dest i

-- the same of each node but the destination
abbrev pub AreKept : Net → ℕ → (ℕ → NodeTable) → Type 0
AreKept net dest tables = (i : ℕ) → IsNode net i → i ≢ dest → IsKeptAt net dest i (tables i)

abbrev pub AreSettled : Net → ℕ → (ℕ → NodeTable) → Type 0
AreSettled net dest tables = (i : ℕ) → IsNode net i → i ≢ dest → IsSettledAt net dest i (tables i)

abbrev pub AreReady : Net → ℕ → (ℕ → NodeTable) → Type 0
AreReady net dest tables = (i : ℕ) → IsNode net i → i ≢ dest → IsReadyAt net dest i (tables i)

-- ---- what may be done
-- no entry at all
abbrev pub emptied_table : NodeTable → NodeTable
emptied_table s = record { front = 0; base = s.base; lower = []; upper = []; choices = [] }

-- another base, where the front is not above it
abbrev pub rebased_table : ℕ → NodeTable → NodeTable
rebased_table base s =
    if nat_le s.front base
    then record { front = s.front; base = base; lower = []; upper = []; choices = [] }
    else s

-- the entries below a budget
abbrev pub cut_to : ℕ → NodeTable → NodeTable
cut_to front s = record {
  front = min s.front front;
  base = s.base;
  lower = take (min s.front front - s.base) s.lower;
  upper = take (min s.front front - s.base) s.upper;
  choices = take (min s.front front - s.base) s.choices;
}

-- an entry more, at the known end
abbrev pub pushed_table : Entry → NodeTable → NodeTable
pushed_table e s = record {
  front = known_end s + 1;
  base = s.base;
  lower = s.lower ++ e.lower ∷ [];
  upper = s.upper ++ e.upper ∷ [];
  choices = s.choices ++ e.choice ∷ [];
}

-- the entry of node i at budget t by the plain sums over two tables
abbrev pub entry_from : Net → (ℕ → ℕ → ℕ) → (ℕ → ℕ → ℕ) → ℕ → ℕ → Entry
entry_from net lower upper i t = record {
  lower = floor_by net.scale (best_sum net lower i t);
  upper = ceiling_by net.scale (best_sum net upper i t);
  choice = choice_of net.arcs (λ arc. plain_sum arc lower t) i;
}

-- node i with one entry more, by the plain sums over the tables; the other nodes stay
abbrev pub push_at : Net → ℕ → ℕ → (ℕ → NodeTable) → ℕ → NodeTable
push_at net dest i tables j =
    if j == i
    then
    pushed_table
    (entry_from net (lower_in dest tables) (upper_in dest tables) i (known_end (tables i)))
    (tables i)
    else tables j

-- with so many more
abbrev pub filled_tables : Net → ℕ → ℕ → (ℕ → NodeTable) → ℕ → ℕ → NodeTable
filled_tables net dest i tables zero = tables
filled_tables net dest i tables (suc k) = push_at net dest i (filled_tables net dest i tables k)

-- the budgets of node i from its known end up to `to` read their heads below their known ends
-- alone: an open arc reads its head at least its least tick below, and a closed one nothing. The
-- destination's known end is past every budget
abbrev pub IsExtent : Net → ℕ → (ℕ → NodeTable) → ℕ → ℕ → Type 0
IsExtent net dest tables i to =
    (e : ℕ) (arc : Arc) → arc_at net e ≡ Some arc → arc.tail ≡ i → is_closed arc.time ≡ false
    → arc.head ≢ dest → to ≤ known_end (tables arc.head) + least_tick arc.time

-- the front of a node once its need is met by extents: it stays, or ends between the known end and
-- the need
pub record IsGrownAt (need : ℕ) (old new : NodeTable) : Type 0 where
  pub base : new.base ≡ old.base
  pub front : (new.front ≡ old.front) ⊎ ((known_end old < new.front) × (new.front ≤ need))

-- the first three steps of an ask at a node: whether another destination begins afresh, whether too
-- much would be kept, and the least time
abbrev pub prepared_table : Bool → Bool → ℕ → NodeTable → NodeTable
prepared_table fresh over least s =
    if over
    then
    rebased_table least
    (emptied_table (rebased_table least (if fresh then emptied_table s else s)))
    else rebased_table least (if fresh then emptied_table s else s)
