-- Decision trees and their on-time probability, after the stochastic on-time arrival problem of Fan
-- and Nie (2006). Each traversal of an arc draws its time afresh.
use Rattle.std.specs.Prelude.{ℕ, ◌≡◌, ◌+◌, ◌-◌, ◌*◌, ◌^◌, ◌≤◌, ◌==◌, nat_le, List, [], ◌∷◌}
use Rattle.std.specs.Prelude.{Option, None, Some, if◌then◌else◌}
use Rattle.sota_units.specs.Rounding.{ONE}
use Rattle.sota_network.specs.Network.{Net, arc_at}
use Rattle.sota_network.specs.Grid.{by_budget}
use Rattle.sota_network.specs.declared.network.Arc.{Arc}

-- a plan for a whole journey: stop, or take the arc of a number and go on by one child for each
-- time that it may take. A place in a tree is a whole history, so the next road may depend on every
-- road taken and every time seen
mutual
  pub data Tree : Type 0 where
    stop : Tree
    go : ℕ → Trees → Tree

  pub data Trees : Type 0 where
    no_trees : Trees
    tree_then : Tree → Trees → Trees

-- a tree that can be followed from node i: each arc leaves the node that was reached, and there is
-- one child for each pair of its time
abbrev mutual
  pub Fits : Net → ℕ → Tree → Type 0
  Fits net i stop = Unit {0}
  Fits net i (go e children) =
      (arc : Arc) × (arc_at net e ≡ Some arc) × (arc.tail ≡ i)
      × AllFit net arc.head arc.time children

  pub AllFit : Net → ℕ → List (ℕ × ℕ) → Trees → Type 0
  AllFit net j [] no_trees = Unit {0}
  AllFit net j (p ∷ ps) (tree_then child rest) = Fits net j child × AllFit net j ps rest
  AllFit net j _ _ = ⊥

-- the probability of standing at the destination within t ticks, from node i by a tree: score /
-- scale ^ t. Who stops elsewhere does not arrive
unfoldable mutual
  pub score : Net → ℕ → ℕ → ℕ → Tree → ℕ
  score net dest i t stop = if i == dest then net.scale ^ t else 0
  score net dest i t (go e children) =
      if i == dest then net.scale ^ t else
      elim (arc_at net e) [ None ↦ 0 | Some arc ↦ scores net dest arc.head t arc.time children ]

  -- the sum over the times within the budget. A child's score is over scale ^ (t - tick) and a mass
  -- is over the scale, so the factor scale ^ (tick - 1) brings their product to scale ^ t
  pub scores : Net → ℕ → ℕ → ℕ → List (ℕ × ℕ) → Trees → ℕ
  scores net dest j t (p ∷ ps) (tree_then child rest) =
      (if nat_le p.0 t then p.1 * net.scale ^ (p.0 - 1) * score net dest j (t - p.0) child else 0)
      + scores net dest j t ps rest
  scores net dest j t _ _ = 0

-- l and h, in units of ten to the minus eighteenth, enclose the greatest probability of all trees
-- from o within t ticks: each has at most h, and one has at least l
abbrev pub Encloses : Net → ℕ → ℕ → ℕ → ℕ → ℕ → Type 0
Encloses net dest o t l h =
    ((tree : Tree) → Fits net o tree → ONE * score net dest o t tree ≤ h * net.scale ^ t)
    × ((tree : Tree) × (Fits net o tree × (l * net.scale ^ t ≤ ONE * score net dest o t tree)))

-- one child for each time of an arc to node j: by `f` with the budget that is left, and stop where
-- the time is over the budget
abbrev pub children : (ℕ → ℕ → Tree) → ℕ → ℕ → List (ℕ × ℕ) → Trees
children f j t [] = no_trees
children f j t (p ∷ ps) =
    tree_then (if nat_le p.0 t then f j (t - p.0) else stop) (children f j t ps)

-- take arc e where it leaves node i, and go on by `f`
abbrev pub go_by : Net → (ℕ → ℕ → Tree) → ℕ → ℕ → ℕ → Tree
go_by net f i t e = elim (arc_at net e) [
  | None ↦ stop
  | Some arc ↦ (if arc.tail == i then go e (children f arc.head t arc.time) else stop)
]

-- the tree of node i and budget t, where `f` has the trees of smaller budgets
abbrev pub follow_step : Net → (ℕ → ℕ → Option ℕ) → ℕ → (ℕ → ℕ → Tree) → ℕ → ℕ → Tree
follow_step net rule dest f i t =
    if i == dest then stop else elim (rule i t) [ None ↦ stop | Some e ↦ go_by net f i t e ]

-- the tree of who follows a rule, which gives an arc or none for each node and budget left
unfoldable pub follow : Net → (ℕ → ℕ → Option ℕ) → ℕ → ℕ → ℕ → Tree
follow net rule dest i t = by_budget stop (follow_step net rule dest) i t
