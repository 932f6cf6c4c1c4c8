-- A route is a list of arcs that is kept to, whatever time each of them takes.
use Rattle.std.specs.Prelude.{ℕ, ◌*◌, ◌^◌, ◌≤◌, List, [], ◌∷◌, Option, None, Some}
use Rattle.sota_units.specs.Rounding.{ONE}
use Rattle.sota_network.specs.Network.{Net, arc_at}
use Rattle.sota_network.specs.Trees.{Tree, Trees, stop, go, no_trees, tree_then, score}

-- the same tree after each pair of an arc's time
abbrev pub copies : List (ℕ × ℕ) → Tree → Trees
copies [] tree = no_trees
copies (p ∷ ps) tree = tree_then tree (copies ps tree)

-- the decision tree of a route: take its first arc, and keep to the rest after each of its times
unfoldable pub along : Net → List ℕ → Tree
along net [] = stop
along net (e ∷ rest) = elim (arc_at net e) [
  | None ↦ stop
  | Some arc ↦ go e (copies arc.time (along net rest))
]

-- the tail of the first arc of a route, from which it is taken
abbrev pub start_of : Net → List ℕ → Option ℕ
start_of net [] = None
start_of net (e ∷ rest) = elim (arc_at net e) [ None ↦ None | Some arc ↦ Some arc.tail ]

-- l and h, in units of ten to the minus eighteenth, enclose the chance to be at the destination
-- within t ticks for who keeps to the route from node o
abbrev pub EnclosesRoute : Net → ℕ → List ℕ → ℕ → ℕ → ℕ → ℕ → Type 0
EnclosesRoute net dest route o t l h =
    (l * net.scale ^ t ≤ ONE * score net dest o t (along net route))
    × (ONE * score net dest o t (along net route) ≤ h * net.scale ^ t)
