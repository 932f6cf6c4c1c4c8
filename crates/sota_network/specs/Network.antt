-- Road networks whose arcs take a random number of ticks, or are never passed.
use Rattle.std.specs.Prelude.{ℕ, zero, suc, ◌≤◌, List, slice_get, slice_set, Option, None, Some}
use Rattle.std.specs.List.{All}
use Rattle.sota_hist.specs.Time.{IsTime, total}
use Rattle.sota_network.specs.declared.network.Arc.{Arc}

-- a network: nodes are numbered from 1 to `nodes`, and arcs from 1 in the order of the list. A mass
-- m of an arc's time stands for the chance m / scale. Self-loops and parallel arcs are arcs like
-- all others
pub record Net : Type 0 where
  pub nodes : ℕ
  pub scale : ℕ
  pub arcs : List Arc

-- node numbers begin at 1
abbrev pub IsNode : Net → ℕ → Type 0
IsNode net i = (1 ≤ i) × (i ≤ net.nodes)

-- an arc joins nodes of the network, and the chances of its ticks sum to at most one. What is
-- missing is the chance that a traversal never ends. An arc without a pair is closed
pub record IsArc (net : Net) (arc : Arc) : Type 0 where
  pub tail : IsNode net arc.tail
  pub head : IsNode net arc.head
  pub time : IsTime arc.time
  pub total : total arc.time ≤ net.scale

-- a network whose arcs are all such. Its scale is a denominator, so it is not 0
pub record IsNet (net : Net) : Type 0 where
  pub scale : 1 ≤ net.scale
  pub arcs : All (IsArc net) net.arcs

-- the arc of a number, and none where no arc has it
abbrev pub arc_at : Net → ℕ → Option Arc
arc_at net zero = None
arc_at net (suc k) = slice_get net.arcs k

-- the network with another time of the arc of this number: itself where no arc has it
abbrev pub replaced : Net → ℕ → List (ℕ × ℕ) → Net
replaced net zero time = net
replaced net (suc k) time = elim (slice_get net.arcs k) [
  | None ↦ net
  | Some arc ↦ record net { arcs = slice_set net.arcs k (record arc { time = time }) }
]
