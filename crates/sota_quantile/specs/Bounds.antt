-- The two bounds of a node, by the grid and by tables.
use Rattle.std.specs.Prelude.{ℕ, ◌≡◌, ◌≤◌}
use Rattle.sota_network.specs.Network.{Net}
use Rattle.sota_network.specs.Grid.{lo, hi}
use Rattle.sota_tables.specs.Views.{TablesView, IsKnownAt, known_lower, known_upper}
use Rattle.sota_sums.specs.declared.bound.Bound.{Bound}
use Rattle.sota_sums.specs.declared.bound.Bound.TheVariants.{Lower, Upper}

-- a bound of node i at budget t by tables
abbrev pub bound_in : Bound → TablesView → ℕ → ℕ → ℕ
bound_in Lower v i t = known_lower v i t
bound_in Upper v i t = known_upper v i t

-- the bounds of node i are known at all budgets of at most `most`, and are those of the grid
pub record HasBounds (v : TablesView) (net : Net) (dest i most : ℕ) : Type 0 where
  pub known : IsKnownAt v i most
  pub lower : (t : ℕ) → t ≤ most → known_lower v i t ≡ lo net dest i t
  pub upper : (t : ℕ) → t ≤ most → known_upper v i t ≡ hi net dest i t
