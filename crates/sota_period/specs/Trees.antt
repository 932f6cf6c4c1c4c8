-- Decision trees over a network whose times depend on the clock, and their on-time probability.
-- Each traversal of an arc draws its time afresh, from the pairs that hold where it begins.
use Rattle.std.specs.Prelude.{ℕ, ◌≡◌, ◌+◌, ◌-◌, ◌*◌, ◌^◌, ◌≤◌, ◌==◌, List, [], ◌∷◌}
use Rattle.std.specs.Prelude.{None, Some, if◌then◌else◌}
use Rattle.sota_units.specs.Rounding.{ONE}
use Rattle.sota_hist.specs.Time.{within}
use Rattle.sota_network.specs.Network.{arc_at}
use Rattle.sota_network.specs.Trees.{Tree, Trees, stop, go, no_trees, tree_then}
use Rattle.sota_network.specs.declared.network.Arc.{Arc}
use Rattle.sota_period.specs.Periods.{TimedNet}

-- a tree that can be followed from node i with t ticks left: each arc leaves the node that was
-- reached, and there is one child, in order, for each pair of its time that is within what is left
abbrev mutual
  pub TimedFits : TimedNet → ℕ → ℕ → Tree → Type 0
  TimedFits net i t stop = Unit {0}
  TimedFits net i t (go e children) =
      (arc : Arc) × (arc_at (net.at t) e ≡ Some arc) × (arc.tail ≡ i)
      × AllTimedFit net arc.head t (within t arc.time) children

  pub AllTimedFit : TimedNet → ℕ → ℕ → List (ℕ × ℕ) → Trees → Type 0
  AllTimedFit net j t [] no_trees = Unit {0}
  AllTimedFit net j t (p ∷ ps) (tree_then child rest) =
      TimedFits net j (t - p.0) child × AllTimedFit net j t ps rest
  AllTimedFit net j t _ _ = ⊥

-- the probability of standing at the destination within t ticks, from node i by a tree: tscore /
-- scale ^ t. Who stops elsewhere does not arrive
unfoldable mutual
  pub tscore : TimedNet → ℕ → ℕ → ℕ → Tree → ℕ
  tscore net dest i t stop = if i == dest then net.scale ^ t else 0
  tscore net dest i t (go e children) =
      if i == dest then net.scale ^ t else
      elim (arc_at (net.at t) e) [
        | None ↦ 0
        | Some arc ↦ tscores net dest arc.head t (within t arc.time) children
      ]

  -- the sum over these pairs. A child's score is over scale ^ (t - tick) and a mass is over the
  -- scale, so the factor scale ^ (tick - 1) brings their product to scale ^ t
  pub tscores : TimedNet → ℕ → ℕ → ℕ → List (ℕ × ℕ) → Trees → ℕ
  tscores net dest j t (p ∷ ps) (tree_then child rest) =
      p.1 * net.scale ^ (p.0 - 1) * tscore net dest j (t - p.0) child
      + tscores net dest j t ps rest
  tscores net dest j t _ _ = 0

-- l and h, in units of ten to the minus eighteenth, enclose the greatest probability of all trees
-- from o within t ticks: each has at most h, and one has at least l
abbrev pub TimedEncloses : TimedNet → ℕ → ℕ → ℕ → ℕ → ℕ → Type 0
TimedEncloses net dest o t l h =
    ((tree : Tree) → TimedFits net o t tree → ONE * tscore net dest o t tree ≤ h * net.scale ^ t)
    × ((tree : Tree)
    × (TimedFits net o t tree × (l * net.scale ^ t ≤ ONE * tscore net dest o t tree)))
