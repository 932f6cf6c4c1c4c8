-- From which budget on another time of an arc can change the entries of a node.
use Rattle.std.specs.Prelude.{ℕ, ◌≡◌, ◌+◌, ◌<◌, ◌≤◌, ◌==◌, ◌||◌, min, Bool, true, false, List}
use Rattle.std.specs.Prelude.{Option, None, Some}
use Rattle.sota_hist.specs.Time.{IsTime, total, before}
use Rattle.sota_network.specs.Network.{Net, IsNet, arc_at}
use Rattle.sota_network.specs.Grid.{lo, hi, choice}
use Rattle.sota_network.specs.Reach.{reaches}
use Rattle.sota_network.specs.declared.network.Arc.{Arc}
use Rattle.sota_kept.specs.Ticks.{END_LIMIT, ticks_to}

-- the first affected budget of node i, never counting as the limit: `first` is the least tick at
-- which the times differ. A walk has to come to the arc's tail, take the arc in at least that tick,
-- and go on from its head
abbrev pub first_affected : Net → ℕ → Arc → ℕ → ℕ → ℕ
first_affected net dest arc first i =
    elim ((arc.tail == dest) || (i == dest)) [
      | true ↦ END_LIMIT
      | false ↦ min END_LIMIT
          (ticks_to net dest END_LIMIT arc.tail i
          + (first + ticks_to net dest END_LIMIT dest arc.head))
    ]

-- the sum of three times, none where it is never
abbrev pub affected_if : Bool → ℕ → Option ℕ → Option ℕ → Option ℕ
affected_if false first (Some to) (Some onward) = Some (to + (first + onward))
affected_if _ first _ _ = None

-- the first affected budget by the least times from node i to the arc's tail and from its head to
-- the destination, without a limit
abbrev pub first_affected_by : ℕ → Arc → ℕ → ℕ → Option ℕ → Option ℕ → Option ℕ
first_affected_by dest arc first i to onward =
    affected_if ((arc.tail == dest) || (i == dest)) first to onward

-- below a budget, none being never
abbrev pub IsUnder : ℕ → Option ℕ → Type 0
IsUnder t None = Unit {0}
IsUnder t (Some n) = t < n

-- another time of an arc, also a closed one: that of a valid network, which has the same pairs
-- below the tick `first`
pub record IsEdit (net : Net) (number : ℕ) (arc : Arc) (first : ℕ) (time : List (ℕ × ℕ))
    : Type 0 where
  pub valid : IsNet net
  pub found : arc_at net number ≡ Some arc
  pub rises : IsTime time
  pub sums : total time ≤ net.scale
  pub same : before first arc.time ≡ before first time

-- what stands at a node and a budget is the same in both networks
pub record SameAt (net other : Net) (dest i t : ℕ) : Type 0 where
  pub lower : lo other dest i t ≡ lo net dest i t
  pub upper : hi other dest i t ≡ hi net dest i t
  pub choice : choice other dest i t ≡ choice net dest i t
  pub reach : reaches other dest dest i t ≡ reaches net dest dest i t
