-- The first three steps of an ask, on tables.
use Rattle.std.specs.Prelude.{ℕ, ◌≡◌, ◌-◌, not, nat_lt, Bool, List, Option, length}
use Rattle.std.specs.Prelude.{slice_index, if◌then◌else◌}
use Rattle.std.specs.List.{sum}
use Rattle.sota_network.specs.Numbers.{listed}
use Rattle.sota_bounds.specs.Search.{time_at}
use Rattle.sota_kept.specs.Ticks.{END_LIMIT, up_to}
use Rattle.sota_kept.specs.States.{KEPT_LIMIT, is_dest}
use Rattle.sota_kept.specs.NodeTables.{NodeTable, emptied_table, rebased_table}
use Rattle.sota_tables.specs.Views.{TablesView, HasNode, row_needed, table_at}

-- the base of node i, by a list of least times
abbrev pub base_by : List (Option ℕ) → ℕ → ℕ
base_by least i = up_to END_LIMIT (time_at least i)

-- how many entries would be kept once the needs are met, and whether these are too many
abbrev pub cells_of : TablesView → List ℕ → ℕ → ℕ
cells_of v needs nodes = sum (listed (row_needed v needs) nodes)

abbrev pub too_many : TablesView → List ℕ → ℕ → Bool
too_many v needs nodes = nat_lt KEPT_LIMIT (cells_of v needs nodes)

-- the table of node i after the first two steps
abbrev pub based_table : TablesView → ℕ → List ℕ → ℕ → NodeTable
based_table old dest bases i =
    rebased_table (slice_index bases (i - 1))
    (if not (is_dest old.dest dest) then emptied_table (table_at old i) else table_at old i)

-- tables to which the three steps were done, by way of those after the first two
pub record StepsTaken (old new : TablesView) (dest : ℕ) (needs bases : List ℕ) : Type 0 where
  pub mid : TablesView
  pub nodes : length mid.fronts ≡ length old.fronts
  pub based : (i : ℕ) → HasNode old i → table_at mid i ≡ based_table old dest bases i
  pub last : (i : ℕ) → HasNode old i → table_at new i
      ≡ if too_many mid needs (length mid.fronts)
      then rebased_table (slice_index bases (i - 1)) (emptied_table (table_at mid i))
      else table_at mid i
