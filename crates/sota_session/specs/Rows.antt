-- What is planned for an ask, and the rows out of it.
use Rattle.std.specs.Prelude.{ℕ, ◌≡◌, ◌<◌, ◌-◌, nat_lt, length, map, Option}
use Rattle.std.specs.Prelude.{Some, None, unwrap_or, if◌then◌else◌}
use Rattle.std.specs.List.{range_with_len}
use Rattle.sota_network.specs.Network.{Net}
use Rattle.sota_network.specs.Grid.{lo, hi, choice}
use Rattle.sota_bounds.specs.Search.{time_at}
use Rattle.sota_bounds.specs.Cells.{listed_need}
use Rattle.sota_bounds.specs.Regions.{IsRegion}
use Rattle.sota_bounds.specs.declared.ask.AskRegion.{AskRegion}
use Rattle.sota_kept.specs.Ticks.{END_LIMIT, up_to}
use Rattle.sota_tables.specs.Views.{TablesView, HasNode, IsKnownAt, known_lower, known_upper}
use Rattle.sota_tables.specs.Views.{choice_in}
use Rattle.sota_polfile.specs.declared.bracket_entry.BracketEntry.{BracketEntry}
use Rattle.sota_polfile.specs.declared.bracket_row.BracketRow.{BracketRow}
use Rattle.sota_polfile.specs.declared.entry.PolicyEntry.{PolicyEntry}
use Rattle.sota_polfile.specs.declared.row.PolicyRow.{PolicyRow}

-- the region has a place for each node of the tables, and each node is known up to below its need
pub record Agrees (region : AskRegion) (tables : TablesView) : Type 0 where
  pub least : length region.least ≡ length tables.fronts
  pub need : length region.need ≡ length tables.fronts
  pub known : (i t : ℕ) → HasNode tables i → t < listed_need region.need i → IsKnownAt tables i t

-- a region of the network whose entries are in the tables: they agree, what the ask is about is
-- known, and what is known is the grid's
pub record IsPlanned (region : AskRegion) (tables : TablesView) (net : Net) : Type 0 where
  pub region_is : IsRegion region net region.origin region.dest region.budget
  pub nodes : length tables.fronts ≡ net.nodes
  pub agrees : Agrees region tables
  pub asked : IsKnownAt tables region.origin region.budget
  pub lower : (i t : ℕ) → IsKnownAt tables i t → known_lower tables i t ≡ lo net region.dest i t
  pub upper : (i t : ℕ) → IsKnownAt tables i t → known_upper tables i t ≡ hi net region.dest i t
  pub choice_is : (i t : ℕ) → IsKnownAt tables i t
      → choice_in tables i t ≡ choice net region.dest i t

-- what is planned for node i at budget t
abbrev pub entry_in : TablesView → ℕ → ℕ → PolicyEntry
entry_in tables i t =
    record { arc = unwrap_or (choice_in tables i t) 0; value = known_lower tables i t }

-- its row from its least time to the destination on
abbrev pub row_from : AskRegion → TablesView → ℕ → Option ℕ → Option PolicyRow
row_from region tables i None = None
row_from region tables i (Some first) =
    if nat_lt first (listed_need region.need i) then Some (record {
      node = i;
      first = first;
      entries = map (entry_in tables i) (range_with_len first (listed_need region.need i - first));
    })
    else None

abbrev pub row_in : AskRegion → TablesView → ℕ → Option PolicyRow
row_in region tables i = row_from region tables i (time_at region.least i)

-- ---- the rows of a bracket

-- what is planned for node i at budget t, with both bounds
abbrev pub bracket_in : TablesView → ℕ → ℕ → BracketEntry
bracket_in tables i t = record {
  arc = unwrap_or (choice_in tables i t) 0;
  lower = known_lower tables i t;
  upper = known_upper tables i t;
}

-- its row from a first budget on
abbrev pub bracket_row_from : AskRegion → TablesView → ℕ → ℕ → BracketRow
bracket_row_from region tables i first = record {
  first = first;
  entries = map (bracket_in tables i) (range_with_len first (listed_need region.need i - first));
}

-- which is its least time to the destination
abbrev pub bracket_row_in : AskRegion → TablesView → ℕ → BracketRow
bracket_row_in region tables i =
    bracket_row_from region tables i (up_to END_LIMIT (time_at region.least i))
