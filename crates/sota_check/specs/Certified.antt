-- What it means that a policy holds on a network. Files of both versions are judged alike: a policy
-- is an entry or none for each node and budget.
use Rattle.std.specs.Prelude.{ℕ, ◌≡◌, ◌*◌, ◌≤◌, ◌==◌, ◌⊎◌, Option, None, Some}
use Rattle.std.specs.Prelude.{option_and_then, if◌then◌else◌}
use Rattle.std.specs.Option.{option_map_or}
use Rattle.sota_units.specs.Rounding.{ONE}
use Rattle.sota_network.specs.Network.{Net, arc_at}
use Rattle.sota_network.specs.Grid.{plain_sum}
use Rattle.sota_network.specs.declared.network.Arc.{Arc}
use Rattle.sota_polfile.specs.Table.{Table, entry_for, entry_of}
use Rattle.sota_polfile.specs.declared.entry.PolicyEntry.{PolicyEntry}
use Rattle.sota_polfile.specs.declared.head.PolicyHead.{PolicyHead}
use Rattle.sota_polfile.specs.declared.row.PolicyRow.{PolicyRow}

-- the value of an entry, and 0 where there is none
abbrev pub value_or_zero : Option PolicyEntry → ℕ
value_or_zero found = option_map_or (λ entry. entry.value) found 0

-- the value of a row at a budget
abbrev pub claimed_value : PolicyRow → ℕ → ℕ
claimed_value row t = value_or_zero (entry_for row t)

-- an entry, or none, for each node and budget
abbrev pub Entries : Type 0
Entries = ℕ → ℕ → Option PolicyEntry

-- the value of node i at budget t: one whole at the destination, elsewhere the entry's
abbrev pub value_by : ℕ → Entries → ℕ → ℕ → ℕ
value_by dest plan i t = if i == dest then ONE else value_or_zero (plan i t)

-- the arc that an entry says to take: 0 stands for none
abbrev pub arc_of : PolicyEntry → Option ℕ
arc_of entry = if entry.arc == 0 then None else Some entry.arc

-- the arc to take from node i at budget t
abbrev pub rule_by : Entries → ℕ → ℕ → Option ℕ
rule_by plan i t = option_and_then arc_of (plan i t)

-- an entry of node i at budget t holds, where `v` has the values: it names no arc and no value, or
-- an arc that leaves the node and is worth the value, by the values at the arc's head
abbrev pub HoldsBy : Net → (ℕ → ℕ → ℕ) → ℕ → ℕ → PolicyEntry → Type 0
HoldsBy net v i t entry =
    ((entry.arc ≡ 0) × (entry.value ≡ 0))
    ⊎ ((arc : Arc) × (arc_at net entry.arc ≡ Some arc) × (arc.tail ≡ i)
    × (entry.value * net.scale ≤ plain_sum arc v t))

-- a policy holds on a network of as many nodes and the same denominator, at each entry by itself
pub record IsCertifiedBy (net : Net) (head : PolicyHead) (plan : Entries) : Type 0 where
  pub nodes : head.nodes ≡ net.nodes
  pub scale : head.scale ≡ net.scale
  pub entries : (i t : ℕ) (entry : PolicyEntry) → plan i t ≡ Some entry
      → HoldsBy net (value_by head.dest plan) i t entry

-- ---- version 1

abbrev pub value : Table → ℕ → ℕ → ℕ
value table i t = value_by table.head.dest (entry_of table) i t

abbrev pub rule : Table → ℕ → ℕ → Option ℕ
rule table i t = rule_by (entry_of table) i t

abbrev pub Holds : Net → Table → ℕ → ℕ → PolicyEntry → Type 0
Holds net table i t entry = HoldsBy net (value table) i t entry

abbrev pub IsCertified : Net → Table → Type 0
IsCertified net table = IsCertifiedBy net table.head (entry_of table)
