-- Roads that are slower at some hours: a network for each period of the clock.
use Rattle.std.specs.Prelude.{ℕ, ◌≡◌, ◌+◌, ◌-◌, ◌<◌, ◌≤◌, nat_le, List, [], ◌∷◌, map, length}
use Rattle.std.specs.Prelude.{slice_index_or, not, ◌==◌, Option}
use Rattle.std.specs.List.{All, filter}
use Rattle.sota_network.specs.Network.{Net, IsNet}
use Rattle.sota_network.specs.Numbers.{first_number}
use Rattle.sota_network.specs.declared.network.Arc.{Arc}

-- a network without a road
abbrev pub no_net : Net
no_net = record { nodes = 0; scale = 1; arcs = [] }

-- the last network of a list, and this one where it is empty
abbrev pub last_net : Net → List (ℕ × Net) → Net
last_net net [] = net
last_net net (p ∷ ps) = last_net p.1 ps

-- the network at a tick of the clock: that of the last period whose start is not above it. A period
-- is the tick at which it starts, and the network while it holds
abbrev pub net_at : List (ℕ × Net) → ℕ → Net
net_at periods clock = last_net no_net (filter (λ p. nat_le p.0 clock) periods)

-- a network whose times depend on how much of the budget is left, with one denominator of masses
pub record TimedNet : Type 0 where
  pub scale : ℕ
  pub at : ℕ → Net

-- the network of the first period
abbrev pub first_net : List (ℕ × Net) → Net
first_net [] = no_net
first_net (p ∷ ps) = p.1

-- where the clock shows the deadline when the budget ends: with t ticks left it is t before it
abbrev pub timed_net : List (ℕ × Net) → ℕ → TimedNet
timed_net periods deadline = record {
  scale = (first_net periods).scale;
  at = λ t. net_at periods (deadline - t);
}

-- a network at every budget, with the same nodes and the same denominator at all
pub record IsTimedNet (net : TimedNet) (count : ℕ) : Type 0 where
  pub valid : (t : ℕ) → IsNet (net.at t)
  pub scale : (t : ℕ) → (net.at t).scale ≡ net.scale
  pub nodes : (t : ℕ) → (net.at t).nodes ≡ count

-- the ends of all arcs
abbrev pub ends : List Arc → List (ℕ × ℕ)
ends arcs = map (λ arc. (arc.tail, arc.head)) arcs

-- the nodes and the ends of all arcs are those of another network
pub record HasRoadsOf (other net : Net) : Type 0 where
  pub nodes : net.nodes ≡ other.nodes
  pub ends : ends net.arcs ≡ ends other.arcs

-- the start of a period by its place from 0
abbrev pub start_at : List (ℕ × Net) → ℕ → ℕ
start_at periods k = (slice_index_or periods k (0, no_net)).0

-- and its network
abbrev pub period_at : List (ℕ × Net) → ℕ → Net
period_at periods k = (slice_index_or periods k (0, no_net)).1

-- the most periods
abbrev pub PERIOD_LIMIT : ℕ
PERIOD_LIMIT = 32

-- periods that follow one another from the first tick of the clock on, over the same roads
pub record ArePeriodsInOrder (periods : List (ℕ × Net)) : Type 0 where
  pub some : 1 ≤ length periods
  pub few : length periods ≤ PERIOD_LIMIT
  pub first : start_at periods 0 ≡ 0
  pub rising : (k : ℕ) → k + 1 < length periods → start_at periods k < start_at periods (k + 1)
  pub roads : All (λ p. HasRoadsOf (first_net periods) p.1) periods

-- such periods whose masses have one denominator
pub record ArePeriods (periods : List (ℕ × Net)) : Type 0 where
  pub order : ArePeriodsInOrder periods
  pub valid : All (λ p. IsNet p.1) periods
  pub scale : All (λ p. p.1.scale ≡ (first_net periods).scale) periods

-- the first place, from 0, whose denominator is not that of the first period
abbrev pub scale_differs : List (ℕ × Net) → Option ℕ
scale_differs periods =
    first_number (λ p. not (p.1.scale == (first_net periods).scale)) 0 periods
