-- Why a policy does not hold on a network: the first cause in the order of its file.
use Rattle.std.specs.Prelude.{ℕ, ◌+◌, ◌*◌, ◌==◌, nat_lt, not, List, [], ◌∷◌}
use Rattle.std.specs.Prelude.{Option, None, Some, if◌then◌else◌}
use Rattle.std.specs.Option.{option_or}
use Rattle.sota_network.specs.Network.{Net, arc_at}
use Rattle.sota_network.specs.Grid.{plain_sum}
use Rattle.sota_network.specs.declared.network.Arc.{Arc}
use Rattle.sota_polfile.specs.Table.{Table}
use Rattle.sota_polfile.specs.declared.entry.PolicyEntry.{PolicyEntry}
use Rattle.sota_polfile.specs.declared.row.PolicyRow.{PolicyRow}
use Rattle.sota_check.specs.Certified.{value}
use Rattle.sota_check.specs.declared.verdict.Rejection.{Rejection}
use Rattle.sota_check.specs.declared.verdict.Rejection.TheVariants.{Size, Scale}
use Rattle.sota_check.specs.declared.verdict.Rejection.TheVariants.{NoArc, WrongTail, Value}

-- the cause of an entry of node i at budget t that names this arc, where `v` has the values
abbrev pub arc_fault : Net → (ℕ → ℕ → ℕ) → ℕ → ℕ → ℕ → Option Arc → Option Rejection
arc_fault net v i t units None = Some (NoArc i t)
arc_fault net v i t units (Some arc) =
    if not (arc.tail == i) then Some (WrongTail i t) else
    if nat_lt (plain_sum arc v t) (units * net.scale) then Some (Value i t) else None

-- the cause of an entry of node i at budget t, none where it holds
unfoldable pub entry_fault : Net → (ℕ → ℕ → ℕ) → ℕ → ℕ → PolicyEntry → Option Rejection
entry_fault net v i t entry =
    if entry.arc == 0 then (if entry.value == 0 then None else Some (Value i t)) else
    arc_fault net v i t entry.value (arc_at net entry.arc)

-- the first cause, where items are looked at in turn: they have the numbers from k on
unfoldable pub first_cause : {Item Cause : Type 0} → (ℕ → Item → Option Cause) → ℕ → List Item
    → Option Cause
first_cause cause k [] = None
first_cause cause k (item ∷ items) =
    option_or (cause k item) (first_cause cause (k + 1) items)

-- the cause of the first of these entries that does not hold: they are for node i and the budgets
-- from t on
abbrev pub entries_fault : Net → (ℕ → ℕ → ℕ) → ℕ → ℕ → List PolicyEntry → Option Rejection
entries_fault net v i t entries = first_cause (entry_fault net v i) t entries

-- the cause of the first entry of a row that does not hold, whichever row it is
abbrev pub row_cause : Net → (ℕ → ℕ → ℕ) → ℕ → PolicyRow → Option Rejection
row_cause net v k row = entries_fault net v row.node row.first row.entries

-- the cause of the first entry of these rows that does not hold
abbrev pub rows_rejection : Net → (ℕ → ℕ → ℕ) → List PolicyRow → Option Rejection
rows_rejection net v rows = first_cause (row_cause net v) 0 rows

-- the first cause: the numbers of nodes, the denominators, and then the entries
unfoldable pub rejection : Net → Table → Option Rejection
rejection net table =
    if not (table.head.nodes == net.nodes) then Some Size else
    if not (table.head.scale == net.scale) then Some Scale else
    rows_rejection net (value table) table.rows
