-- How many budgets each node needs: those that a trip from the origin can leave there.
use Rattle.std.specs.Prelude.{ℕ, ◌≡◌, ◌≢◌, ◌+◌, ◌-◌, ◌<◌, ◌≤◌, false, List, length}
use Rattle.std.specs.Prelude.{slice_index, Option, None, Some}
use Rattle.std.specs.List.{All}
use Rattle.sota_hist.specs.Time.{IsTime, total, is_closed, least_tick}
use Rattle.sota_network.specs.Network.{Net, IsNet, arc_at}
use Rattle.sota_network.specs.declared.network.Arc.{Arc}
use Rattle.sota_period.specs.Periods.{first_net, period_at}

-- the need of node i
abbrev pub node_need : List ℕ → ℕ → ℕ
node_need needs i = slice_index needs (i - 1)

-- who leaves a node with less than its need comes to the head of an open arc with less than the
-- head's need. None leaves the destination
abbrev pub Serves : List ℕ → ℕ → Net → Type 0
Serves needs dest net = (e : ℕ) (arc : Arc) → arc_at net e ≡ Some arc
    → is_closed arc.time ≡ false → arc.tail ≢ dest
    → node_need needs arc.tail ≤ node_need needs arc.head + least_tick arc.time

-- needs of all nodes up to `most`, whatever the period. One of 0 says that no trip comes to the
-- node in time
pub record AreTimedNeeds (periods : List (ℕ × Net)) (dest most : ℕ) (needs : List ℕ) : Type 0 where
  pub count : length needs ≡ (first_net periods).nodes
  pub within : All (λ n. n ≤ most) needs
  pub serves : All (λ p. Serves needs dest p.1) periods

-- the need of a node that is reached at this time at the soonest
abbrev pub need_by : ℕ → Option ℕ → ℕ
need_by budget None = 0
need_by budget (Some time) = budget + 1 - time

-- there is a tick, and it is no later
abbrev pub IsBy : Option ℕ → ℕ → Type 0
IsBy None late = ⊥
IsBy (Some tick) late = tick ≤ late

-- an arc with the ends of another one, open where that is, and no slower
pub record IsQuicker (arc quick : Arc) : Type 0 where
  pub tail : quick.tail ≡ arc.tail
  pub head : quick.head ≡ arc.head
  pub open_arc : is_closed arc.time ≡ false → is_closed quick.time ≡ false
  pub least : is_closed arc.time ≡ false → least_tick quick.time ≤ least_tick arc.time

-- an arc that is quicker than that of this number, whatever the period
abbrev pub IsQuickest : List (ℕ × Net) → ℕ → Arc → Type 0
IsQuickest periods e quick = (k : ℕ) (arc : Arc) → k < length periods
    → arc_at (period_at periods k) e ≡ Some arc → IsQuicker arc quick

-- an arc between such nodes whose time is certain or closed
pub record IsCertain (nodes : ℕ) (arc : Arc) : Type 0 where
  pub tail : (1 ≤ arc.tail) × (arc.tail ≤ nodes)
  pub head : (1 ≤ arc.head) × (arc.head ≤ nodes)
  pub time : IsTime arc.time
  pub total : total arc.time ≤ 1

-- a network with such an arc for each number
pub record AreQuickest (periods : List (ℕ × Net)) (quick : Net) : Type 0 where
  pub valid : IsNet quick
  pub nodes : quick.nodes ≡ (first_net periods).nodes
  pub arc : (k e : ℕ) (arc : Arc) → k < length periods → arc_at (period_at periods k) e ≡ Some arc
      → (other : Arc) × (arc_at quick e ≡ Some other) × IsQuicker arc other

-- the numbers of all nodes with a need, but not of the destination
pub record AreVisited (needs : List ℕ) (dest : ℕ) (nodes : List ℕ) : Type 0 where
  pub all : (i : ℕ) → 1 ≤ i → i ≤ length needs → i ≢ dest → 1 ≤ node_need needs i
      → (k : ℕ) × (k < length nodes) × (slice_index nodes k ≡ i)
  pub only : All (λ i. (1 ≤ i) × (i ≤ length needs) × (i ≢ dest)) nodes
