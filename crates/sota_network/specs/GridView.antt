-- Tables of a grid up to a budget.
use Rattle.std.specs.Prelude.{ℕ, ◌≡◌, ◌+◌, ◌-◌, ◌*◌, ◌≤◌, List}
use Rattle.std.specs.Prelude.{slice_index, slice_index_or, Option, None}
use Rattle.sota_network.specs.Network.{Net, IsNode}
use Rattle.sota_network.specs.Grid.{lo, hi, choice}

-- where node i at budget t stands in a table of one row for each budget
abbrev pub place : ℕ → ℕ → ℕ → ℕ
place nodes i t = t * nodes + (i - 1)

-- what a table of values has for node i at budget t
abbrev pub in_table : List ℕ → ℕ → ℕ → ℕ → ℕ
in_table values nodes i t = slice_index values (place nodes i t)

-- a grid as a table: the values and choices of all nodes up to a budget
pub record GridView : Type 0 where
  pub nodes : ℕ
  pub budget : ℕ
  pub lower : List ℕ
  pub upper : List ℕ
  pub choices : List (Option ℕ)

-- the entries of node i at budget t
abbrev pub lower_at : GridView → ℕ → ℕ → ℕ
lower_at grid i t = in_table grid.lower grid.nodes i t

abbrev pub upper_at : GridView → ℕ → ℕ → ℕ
upper_at grid i t = in_table grid.upper grid.nodes i t

abbrev pub choice_at : GridView → ℕ → ℕ → Option ℕ
choice_at grid i t = slice_index_or grid.choices (place grid.nodes i t) None

-- each entry is that of the network's grid, at every node and at every budget up to the last
pub record IsGrid (grid : GridView) (net : Net) (dest last : ℕ) : Type 0 where
  pub nodes : grid.nodes ≡ net.nodes
  pub budget : grid.budget ≡ last
  pub lower : (i t : ℕ) → IsNode net i → t ≤ last → lower_at grid i t ≡ lo net dest i t
  pub upper : (i t : ℕ) → IsNode net i → t ≤ last → upper_at grid i t ≡ hi net dest i t
  pub choice : (i t : ℕ) → IsNode net i → t ≤ last → choice_at grid i t ≡ choice net dest i t
