-- The bracket table that a planner writes: the grid over the region of its ask, and the least times
-- to the destination.
use Rattle.std.specs.Prelude.{ℕ, ◌≡◌, ◌≢◌, ◌+◌, min, Option, Some, None, if◌then◌else◌}
use Rattle.std.specs.Option.{option_map_or}
use Rattle.sota_units.specs.Limits.{BUDGET_LIMIT}
use Rattle.sota_network.specs.Network.{Net, IsNode}
use Rattle.sota_network.specs.Grid.{lo, hi}
use Rattle.sota_network.specs.Walks.{IsLeastTime}
use Rattle.sota_network.specs.Reach.{in_region}
use Rattle.sota_polfile.specs.Bracket.{Bracket, bracket_entry_of}
use Rattle.sota_polfile.specs.declared.bracket_entry.BracketEntry.{BracketEntry}
use Rattle.sota_check.specs.Planned.{grid_entry, ask_head}
use Rattle.sota_check.specs.Bracketed.{first_at}

-- the choice, 0 for none, and both values
abbrev pub grid_bracket : Net → ℕ → ℕ → ℕ → BracketEntry
grid_bracket net dest i t = record {
  arc = (grid_entry net dest i t).arc;
  lower = lo net dest i t;
  upper = hi net dest i t;
}

-- the first budget for a least time: that after the last one of all where there is no walk, or none
-- so short
abbrev pub first_budget_by : Option ℕ → ℕ
first_budget_by to = option_map_or (λ n. min n (BUDGET_LIMIT + 1)) to (BUDGET_LIMIT + 1)

-- the head is the ask's, first budgets are the least times, and the entries are the grid's, exactly
-- in the region. The destination has the first budget 0 and no entry, as in each bracket table
pub record IsPlannedBracket (net : Net) (origin dest last : ℕ) (table : Bracket) : Type 0 where
  pub head : table.head ≡ ask_head net origin dest last
  pub firsts : (i : ℕ) → IsNode net i → i ≢ dest
      → (to : Option ℕ) × (IsLeastTime net dest i dest to) × (first_at table i ≡ first_budget_by to)
  pub entries : (i t : ℕ) → bracket_entry_of table i t
      ≡ (if in_region net origin dest last i t then Some (grid_bracket net dest i t) else None)
