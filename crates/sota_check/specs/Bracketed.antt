-- What it means that a bracket table encloses the greatest on-time probability on a network.
use Rattle.std.specs.Prelude.{ℕ, ◌≡◌, ◌≢◌, ◌+◌, ◌*◌, ◌≤◌, ◌==◌, nat_lt, min, false, Option, Some}
use Rattle.std.specs.Prelude.{if◌then◌else◌}
use Rattle.std.specs.Option.{option_map, option_map_or}
use Rattle.sota_units.specs.Rounding.{ONE}
use Rattle.sota_hist.specs.Time.{is_closed, least_tick}
use Rattle.sota_network.specs.Network.{Net, arc_at}
use Rattle.sota_network.specs.Grid.{plain_sum}
use Rattle.sota_network.specs.declared.network.Arc.{Arc}
use Rattle.sota_polfile.specs.Table.{entry_from}
use Rattle.sota_polfile.specs.Bracket.{Bracket, bracket_row_of, bracket_entry_of}
use Rattle.sota_polfile.specs.declared.bracket_entry.BracketEntry.{BracketEntry}
use Rattle.sota_polfile.specs.declared.bracket_row.BracketRow.{BracketRow}
use Rattle.sota_polfile.specs.declared.entry.PolicyEntry.{PolicyEntry}
use Rattle.sota_check.specs.Certified.{Entries, value_by, rule_by, IsCertifiedBy}

-- ---- the lower side is a policy

-- an entry without its upper value
abbrev pub lower_entry : BracketEntry → PolicyEntry
lower_entry entry = record { arc = entry.arc; value = entry.lower }

-- the policy of a table
abbrev pub lower_entries : Bracket → Entries
lower_entries table i t = option_map lower_entry (bracket_entry_of table i t)

-- what node i attains at budget t
abbrev pub lower : Bracket → ℕ → ℕ → ℕ
lower table i t = value_by table.head.dest (lower_entries table) i t

-- the arc to take from node i at budget t
abbrev pub bracket_rule : Bracket → ℕ → ℕ → Option ℕ
bracket_rule table i t = rule_by (lower_entries table) i t

-- ---- the upper side

-- the first budget of node i: below it none arrives in time
abbrev pub first_at : Bracket → ℕ → ℕ
first_at table i = option_map_or (λ row. row.first) (bracket_row_of table i) 0

-- the upper value of a row at a budget: 0 below its first, the entry's where there is one, and one
-- whole where nothing is known. No chance is more than one whole
abbrev pub row_upper : BracketRow → ℕ → ℕ
row_upper row t =
    if nat_lt t row.first then 0 else
    option_map_or (λ entry. min ONE entry.upper) (entry_from row.first row.entries t) ONE

-- the upper value of node i at budget t
abbrev pub upper : Bracket → ℕ → ℕ → ℕ
upper table i t =
    if i == table.head.dest then ONE else
    option_map_or (λ row. row_upper row t) (bracket_row_of table i) ONE

-- The lower side holds as a policy does. First budgets fall along an open arc by no more than its
-- least tick, so that below them no walk arrives: this needs no trust in who left budgets out. And
-- no arc from a node is worth more than the upper value of an entry there.
pub record IsBracketed (net : Net) (table : Bracket) : Type 0 where
  pub certified : IsCertifiedBy net table.head (lower_entries table)
  pub potential : (e : ℕ) (arc : Arc) → arc_at net e ≡ Some arc → arc.tail ≢ table.head.dest
      → is_closed arc.time ≡ false
      → first_at table arc.tail ≤ first_at table arc.head + least_tick arc.time
  pub uppers : (i t : ℕ) (entry : BracketEntry) → bracket_entry_of table i t ≡ Some entry
      → (e : ℕ) (arc : Arc) → arc_at net e ≡ Some arc → arc.tail ≡ i
      → plain_sum arc (upper table) t ≤ upper table i t * net.scale
