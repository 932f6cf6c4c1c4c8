-- Why a bracket table does not hold on a network: the first cause, first budgets before entries and
-- these in the order of their file.
use Rattle.std.specs.Prelude.{ℕ, ◌+◌, ◌*◌, ◌==◌, ◌&&◌, nat_lt, not, Bool, map}
use Rattle.std.specs.Prelude.{Option, None, Some, if◌then◌else◌}
use Rattle.std.specs.Option.{option_or, option_map}
use Rattle.std.specs.List.{filter, list_any}
use Rattle.sota_hist.specs.Time.{is_closed, least_tick, least_of}
use Rattle.sota_network.specs.Network.{Net}
use Rattle.sota_network.specs.Grid.{plain_sum}
use Rattle.sota_network.specs.declared.network.Arc.{Arc}
use Rattle.sota_polfile.specs.Bracket.{Bracket}
use Rattle.sota_polfile.specs.declared.bracket_entry.BracketEntry.{BracketEntry}
use Rattle.sota_polfile.specs.declared.bracket_row.BracketRow.{BracketRow}
use Rattle.sota_check.specs.Bracketed.{lower_entry, lower, first_at, upper}
use Rattle.sota_check.specs.Rejected.{entry_fault, first_cause}
use Rattle.sota_check.specs.declared.verdict.Rejection.{Rejection}
use Rattle.sota_check.specs.declared.verdict.Rejection.TheVariants as lowers
use Rattle.sota_check.specs.declared.bracket_verdict.BracketRejection.{BracketRejection}
use Rattle.sota_check.specs.declared.bracket_verdict.BracketRejection.TheVariants as causes

-- an open arc at which the first budget falls by more than the least tick
abbrev pub is_steep : Bracket → Arc → Bool
is_steep table arc =
    not (arc.tail == table.head.dest)
    && (not (is_closed arc.time)
    && nat_lt (first_at table arc.head + least_tick arc.time) (first_at table arc.tail))

-- the least node that such an arc leaves
unfoldable pub steep_node : Net → Bracket → Option ℕ
steep_node net table = least_of (map (λ arc. arc.tail) (filter (is_steep table) net.arcs))

-- what the cause of a policy is called where it is the lower side of a bracket
abbrev pub of_lower : Rejection → BracketRejection
of_lower lowers.Size = causes.Size
of_lower lowers.Scale = causes.Scale
of_lower (lowers.NoArc i t) = causes.NoArc i t
of_lower (lowers.WrongTail i t) = causes.WrongTail i t
of_lower (lowers.Value i t) = causes.Lower i t

-- an arc that leaves node i and is worth more than this at budget t, where `w` has the values
abbrev pub exceeds : (ℕ → ℕ → ℕ) → ℕ → ℕ → ℕ → Arc → Bool
exceeds w i t most arc = (arc.tail == i) && nat_lt most (plain_sum arc w t)

-- some arc is worth more than the upper value of its node, where `w` has the upper values
unfoldable pub upper_fault : Net → (ℕ → ℕ → ℕ) → ℕ → ℕ → Option BracketRejection
upper_fault net w i t =
    if list_any (exceeds w i t (w i t * net.scale)) net.arcs then Some (causes.Upper i t) else None

-- the cause of an entry of node i at budget t, none where it holds
unfoldable pub bracket_entry_fault : Net → Bracket → ℕ → ℕ → BracketEntry → Option BracketRejection
bracket_entry_fault net table i t entry =
    option_or (option_map of_lower (entry_fault net (lower table) i t (lower_entry entry)))
    (upper_fault net (upper table) i t)

-- the cause of the first entry of a node that does not hold
abbrev pub bracket_row_rejection : Net → Bracket → ℕ → BracketRow → Option BracketRejection
bracket_row_rejection net table i row =
    first_cause (bracket_entry_fault net table i) row.first row.entries

-- the first cause
unfoldable pub bracket_rejection : Net → Bracket → Option BracketRejection
bracket_rejection net table =
    if not (table.head.nodes == net.nodes) then Some causes.Size else
    if not (table.head.scale == net.scale) then Some causes.Scale else
    option_or (option_map causes.Potential (steep_node net table))
    (first_cause (bracket_row_rejection net table) 1 table.rows)
