use Rattle.std.proofs.Common.{ℕ, ◌-◌, ◌≤◌, slice_index}
use Rattle.sota_kept.specs.NodeTables.{known_end}
use Rattle.sota_tables.specs.Views.{table_at, room_of}
use Rattle.sota_tables.proofs.tables.Tables.has_room_up_to.Given as goal

abbrev pub invariant-loop-index : goal.invariant-loop-index
invariant-loop-index l = (i : ℕ) → 1 ≤ i → i ≤ l.index → slice_index l.needs (i - 1) - known_end (table_at l.self i) ≤ room_of l.self i
