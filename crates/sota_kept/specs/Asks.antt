-- What the steps of an ask do to tables.
use Rattle.std.specs.Prelude.{ℕ, ◌≡◌, ◌-◌, not, nat_lt, length, Some}
use Rattle.std.specs.List.{sum}
use Rattle.sota_network.specs.Numbers.{listed}
use Rattle.sota_network.specs.Region.{need}
use Rattle.sota_network.specs.Network.{Net, IsNode}
use Rattle.sota_network.specs.Grid.{lo, hi, choice}
use Rattle.sota_kept.specs.Ticks.{least_to}
use Rattle.sota_kept.specs.NodeTables.{NodeTable, Entry, IsGrownAt, known_end, prepared_table}
use Rattle.sota_kept.specs.States.{KEPT_LIMIT, is_dest, started_state, based_state, cells_kept}
use Rattle.sota_kept.specs.TableLists.{TableLists, table_of, state_of}

-- an entry is the grid's
pub record IsGridEntry (net : Net) (dest i t : ℕ) (e : Entry) : Type 0 where
  pub lower : e.lower ≡ lo net dest i t
  pub upper : e.upper ≡ hi net dest i t
  pub choice : e.choice ≡ choice net dest i t

-- the first three steps of an ask were taken at each node
pub record IsPrepared (net : Net) (origin dest last : ℕ) (old new : TableLists) : Type 0 where
  pub to : new.dest ≡ Some dest
  pub nodes : (length new.fronts ≡ net.nodes) × (length new.bases ≡ net.nodes)
  pub tables : (i : ℕ) → IsNode net i
      → table_of new i
      ≡ prepared_table (not (is_dest old.dest dest))
      (nat_lt KEPT_LIMIT
      (cells_kept net origin dest last
      (based_state net dest (started_state net dest (state_of old)))))
      (least_to net dest i) (table_of old i)

-- the needs of an ask were met by extents: only fronts and rows grew
pub record IsGrown (net : Net) (origin dest last : ℕ) (old new : TableLists) : Type 0 where
  pub to : new.dest ≡ old.dest
  pub bases : new.bases ≡ old.bases
  pub nodes : length new.fronts ≡ net.nodes
  pub tables : (i : ℕ) → IsNode net i
      → IsGrownAt (need net origin dest last i) (table_of old i) (table_of new i)

-- how many entries are still to be pushed
abbrev pub left_to_push : Net → ℕ → ℕ → ℕ → (ℕ → NodeTable) → ℕ
left_to_push net origin dest last tables =
    sum (listed (λ i. need net origin dest last i - known_end (tables i)) net.nodes)
