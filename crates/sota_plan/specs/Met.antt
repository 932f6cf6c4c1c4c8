-- An ask that finds all that it wants in the tables.
use Rattle.std.specs.Prelude.{ℕ, ◌≡◌, ◌≤◌, ◌==◌, ◌&&◌, ◌||◌, nat_le, nat_lt, Bool, Some}
use Rattle.sota_network.specs.Network.{Net, IsNet, IsNode}
use Rattle.sota_bounds.specs.Cells.{listed_need}
use Rattle.sota_bounds.specs.declared.ask.AskRegion.{AskRegion}
use Rattle.sota_kept.specs.Ticks.{least_to}
use Rattle.sota_kept.specs.NodeTables.{known_end}
use Rattle.sota_kept.specs.States.{grown_state, after_ask, missing}
use Rattle.sota_kept.specs.TableLists.{IsSettled, state_of}
use Rattle.sota_tables.specs.Views.{TablesView, lists_of, table_at}
use Rattle.sota_plan.specs.Steps.{base_by}

-- the entries of node i up to its need are kept, and another base would not be taken
abbrev pub has_all : TablesView → AskRegion → ℕ → Bool
has_all tables region i =
    nat_le (listed_need region.need i) (known_end (table_at tables i))
    && (nat_lt (base_by region.least i) (table_at tables i).front
    || ((table_at tables i).base == base_by region.least i))

-- the tables are settled towards the destination of a region's ask, and a node without an entry
-- above its least time has that as its base. All of it is as it is after the ask, also after its
-- last step alone, and no entry is missing
pub record IsMet (region : AskRegion) (tables : TablesView) (net : Net) : Type 0 where
  pub valid : IsNet net
  pub dest : tables.dest ≡ Some region.dest
  pub settled : IsSettled (lists_of tables) net
  pub based : (i : ℕ) → IsNode net i
      → (table_at tables i).front ≤ least_to net region.dest i
      → (table_at tables i).base ≡ least_to net region.dest i
  pub grown : state_of (lists_of tables)
      ≡ grown_state net region.origin region.dest region.budget (state_of (lists_of tables))
  pub after : state_of (lists_of tables)
      ≡ after_ask net region.origin region.dest region.budget (state_of (lists_of tables))
  pub none : missing net region.origin region.dest region.budget (state_of (lists_of tables)) ≡ 0
