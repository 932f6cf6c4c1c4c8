-- Small networks on which the definitions are computed.
use Rattle.std.specs.Prelude.{[], ◌∷◌}
use Rattle.sota_network.specs.Network.{Net}
use Rattle.sota_network.specs.Trees.{Tree, stop, go, no_trees, tree_then}

-- from 1 to 3 by way of 2 in 2 or 4 ticks, each with the chance 2/4, or straight in 3 ticks with
-- the chance 3/4, else in 5
abbrev pub triangle : Net
triangle = record {
  nodes = 3;
  scale = 4;
  arcs =
      record { tail = 1; head = 2; time = (1, 4) ∷ [] }
      ∷ record { tail = 2; head = 3; time = (1, 2) ∷ (3, 2) ∷ [] }
      ∷ record { tail = 1; head = 3; time = (3, 3) ∷ (5, 1) ∷ [] }
      ∷ [];
}

-- two roads in a row, each quick with the chance 1/3
abbrev pub chain : Net
chain = record {
  nodes = 3;
  scale = 3;
  arcs =
      record { tail = 1; head = 2; time = (1, 1) ∷ (9, 2) ∷ [] }
      ∷ record { tail = 2; head = 3; time = (1, 1) ∷ (9, 2) ∷ [] }
      ∷ [];
}

-- both roads of the chain, whatever their times
abbrev pub chain_tree : Tree
chain_tree =
    go 1 (tree_then (go 2 (tree_then stop (tree_then stop no_trees)))
    (tree_then (go 2 (tree_then stop (tree_then stop no_trees))) no_trees))

-- a first road of 1 or 2 ticks, and then a road that takes 1 tick or is too late, or one that takes
-- 2 for certain
abbrev pub fork : Net
fork = record {
  nodes = 3;
  scale = 2;
  arcs =
      record { tail = 1; head = 2; time = (1, 1) ∷ (2, 1) ∷ [] }
      ∷ record { tail = 2; head = 3; time = (1, 1) ∷ (5, 1) ∷ [] }
      ∷ record { tail = 2; head = 3; time = (2, 2) ∷ [] }
      ∷ [];
}

-- the fixed route by the road that may be late, and the one by the certain road
abbrev pub late_route : Tree
late_route = chain_tree

abbrev pub certain_route : Tree
certain_route =
    go 1 (tree_then (go 3 (tree_then stop no_trees))
    (tree_then (go 3 (tree_then stop no_trees)) no_trees))

-- two roads side by side that take 5 ticks
abbrev pub twins : Net
twins = record {
  nodes = 2;
  scale = 1;
  arcs =
      record { tail = 1; head = 2; time = (5, 1) ∷ [] }
      ∷ record { tail = 1; head = 2; time = (5, 1) ∷ [] }
      ∷ [];
}

-- a bridge that is passed in 5 ticks with the chance 3/4, and else never
abbrev pub bridge : Net
bridge = record {
  nodes = 2;
  scale = 4;
  arcs = record { tail = 1; head = 2; time = (5, 3) ∷ [] } ∷ [];
}

-- a road that is closed
abbrev pub barrier : Net
barrier = record { nodes = 2; scale = 4; arcs = record { tail = 1; head = 2; time = [] } ∷ [] }
