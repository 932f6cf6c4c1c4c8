-- What stands for each of the two bounds: rows, values of the grid, and summers.
use Rattle.std.specs.Prelude.{ℕ, ◌-◌, ◌==◌, nat_lt, List, slice_index, if◌then◌else◌}
use Rattle.sota_units.specs.Rounding.{ONE}
use Rattle.sota_network.specs.Network.{Net}
use Rattle.sota_network.specs.Grid.{lo, hi}
use Rattle.sota_kept.specs.NodeTables.{NodeTable}
use Rattle.sota_fill.specs.declared.broad.Summers.{Summers}
use Rattle.sota_sums.specs.declared.bound.Bound.{Bound}
use Rattle.sota_sums.specs.declared.bound.Bound.TheVariants.{Lower, Upper}

abbrev pub bound_row : Bound → NodeTable → List ℕ
bound_row Lower s = s.lower
bound_row Upper s = s.upper

-- the value of node i at budget t: who stands at the destination has arrived
abbrev pub value_in : Bound → ℕ → (ℕ → NodeTable) → ℕ → ℕ → ℕ
value_in bound dest tables i t =
    if i == dest then ONE else
    if nat_lt t (tables i).base then 0
    else slice_index (bound_row bound (tables i)) (t - (tables i).base)

abbrev pub grid_in : Bound → Net → ℕ → ℕ → ℕ → ℕ
grid_in Lower net dest i t = lo net dest i t
grid_in Upper net dest i t = hi net dest i t

abbrev pub summer_in : {Z : Type 0} → Bound → Summers Z → Z
summer_in Lower two = two.lower
summer_in Upper two = two.upper
