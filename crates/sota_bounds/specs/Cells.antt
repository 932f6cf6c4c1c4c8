-- The needs and cells of a region, out of its least times.
use Rattle.std.specs.Prelude.{ℕ, ◌-◌, ◌==◌, List, slice_index}
use Rattle.std.specs.Prelude.{Option, None, Some, if◌then◌else◌}
use Rattle.std.specs.List.{sum, sum_by}
use Rattle.sota_network.specs.Numbers.{listed}
use Rattle.sota_network.specs.Region.{need_between, broad_at}
use Rattle.sota_network.specs.declared.network.Arc.{Arc}
use Rattle.sota_bounds.specs.Search.{time_at}

-- the need that is kept for node i
abbrev pub listed_need : List ℕ → ℕ → ℕ
listed_need needs i = slice_index needs (i - 1)

-- the need of node i, by the times to the destination and from the origin
abbrev pub need_by_times : ℕ → ℕ → List (Option ℕ) → List (Option ℕ) → ℕ → ℕ
need_by_times dest budget least from i =
    if i == dest then 0 else need_between budget (time_at least i) (time_at from i)

-- the number of pairs of a node with this time to the destination and this need
abbrev pub pairs_by_need : Option ℕ → ℕ → ℕ
pairs_by_need None needed = 0
pairs_by_need (Some to) needed = needed - to

-- those of node i
abbrev pub pairs_by_lists : List (Option ℕ) → List ℕ → ℕ → ℕ
pairs_by_lists least needs i = pairs_by_need (time_at least i) (listed_need needs i)

-- the table cells and the broad cells, by the lists of least times and needs
abbrev pub table_cells_by_lists : List (Option ℕ) → List ℕ → ℕ → ℕ
table_cells_by_lists least needs nodes = sum (listed (pairs_by_lists least needs) nodes)

abbrev pub broad_cells_by_lists : ℕ → List (Option ℕ) → List ℕ → List Arc → ℕ
broad_cells_by_lists budget least needs arcs =
    sum_by (λ arc. broad_at budget (pairs_by_lists least needs arc.tail) arc) arcs

-- what the arcs that leave node i add to the broad cells, where it has so many pairs
abbrev pub broad_cells_at : ℕ → ℕ → ℕ → List Arc → ℕ
broad_cells_at budget pairs i arcs =
    sum_by (λ arc. if arc.tail == i then broad_at budget pairs arc else 0) arcs
