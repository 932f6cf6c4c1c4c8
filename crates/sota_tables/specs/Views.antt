-- What a contract sees of tables: lists with one item a node, that of node i at the index i - 1.
use Rattle.std.specs.Prelude.{ℕ, ◌≡◌, ◌≢◌, ◌-◌, ◌<◌, ◌≤◌, ◌+◌, ◌==◌, ◌++◌, min, max, Bool}
use Rattle.std.specs.Prelude.{false, List}
use Rattle.std.specs.Prelude.{length, slice_index, Option, None, Some, IsSome, if◌then◌else◌}
use Rattle.sota_units.specs.Limits.{NODE_LIMIT}
use Rattle.sota_units.specs.Rounding.{ONE}
use Rattle.sota_network.specs.Numbers.{listed}
use Rattle.sota_bank.specs.Rows.{Row, list_at, cap_at, lists}
use Rattle.sota_kept.specs.NodeTables.{NodeTable, IsNodeTable, known_end, lower_of, upper_of}
use Rattle.sota_kept.specs.NodeTables.{next_of}
use Rattle.sota_kept.specs.TableLists.{TableLists}

-- the destination or none, and for each node a front, a base and three rows
pub record TablesView : Type 0 where
  pub dest : Option ℕ
  pub fronts : List ℕ
  pub bases : List ℕ
  pub lower : List (Row ℕ)
  pub upper : List (Row ℕ)
  pub choices : List (Row (Option ℕ))

-- without the capacities
abbrev pub lists_of : TablesView → TableLists
lists_of v = record {
  dest = v.dest;
  fronts = v.fronts;
  bases = v.bases;
  lower = lists v.lower;
  upper = lists v.upper;
  choices = lists v.choices;
}

-- what is kept of node i
abbrev pub table_at : TablesView → ℕ → NodeTable
table_at v i = record {
  front = slice_index v.fronts (i - 1);
  base = slice_index v.bases (i - 1);
  lower = list_at v.lower (i - 1);
  upper = list_at v.upper (i - 1);
  choices = list_at v.choices (i - 1);
}

-- a node of the tables
abbrev pub HasNode : TablesView → ℕ → Type 0
HasNode v i = (1 ≤ i) × (i ≤ length v.fronts)

-- each list has one item a node, and the rows are as long as the fronts say
pub record IsTablesView (v : TablesView) : Type 0 where
  pub small : length v.fronts ≤ NODE_LIMIT
  pub bases : length v.bases ≡ length v.fronts
  pub lower : length v.lower ≡ length v.fronts
  pub upper : length v.upper ≡ length v.fronts
  pub choices : length v.choices ≡ length v.fronts
  pub tables : (i : ℕ) → 1 ≤ i → i ≤ length v.fronts → IsNodeTable (table_at v i)

-- ---- what is answered
-- a row has an entry at each budget from the base of a node up to its front
abbrev pub Spans : {X : Type 0} → List X → NodeTable → Type 0
Spans row s = length row ≡ s.front - s.base

-- node i is the destination
abbrev pub is_at_dest : Option ℕ → ℕ → Bool
is_at_dest None i = false
is_at_dest (Some dest) i = i == dest

-- what is answered of node i at budget t is known: there is a destination, and it is node i, or the
-- budget is below the node's known end
pub record IsKnownAt (v : TablesView) (i t : ℕ) : Type 0 where
  pub dest : IsSome v.dest
  pub node : HasNode v i
  pub below : is_at_dest v.dest i ≡ false → t < known_end (table_at v i)

-- who stands at the destination has arrived, and has no arc to take
abbrev pub known_lower : TablesView → ℕ → ℕ → ℕ
known_lower v i t = if is_at_dest v.dest i then ONE else lower_of (table_at v i) t

abbrev pub known_upper : TablesView → ℕ → ℕ → ℕ
known_upper v i t = if is_at_dest v.dest i then ONE else upper_of (table_at v i) t

abbrev pub choice_in : TablesView → ℕ → ℕ → Option ℕ
choice_in v i t = if is_at_dest v.dest i then None else next_of (table_at v i) t

-- ---- rooms
-- how many entries can still be pushed at node i
abbrev pub room_in : {X : Type 0} → List (Row X) → ℕ → ℕ
room_in rows i = cap_at rows (i - 1) - length (list_at rows (i - 1))

abbrev pub room_of : TablesView → ℕ → ℕ
room_of v i = min (room_in v.lower i) (min (room_in v.upper i) (room_in v.choices i))

-- how long the row of node i becomes, up to its need
abbrev pub row_needed : TablesView → List ℕ → ℕ → ℕ
row_needed v needs i =
    max (slice_index v.fronts (i - 1)) (slice_index needs (i - 1)) - slice_index v.bases (i - 1)

-- the same of all nodes
abbrev pub rows_needed : TablesView → List ℕ → List ℕ
rows_needed v needs = listed (row_needed v needs) (length v.fronts)

-- the new tables have room at each node from its known end in the old ones up to its need
abbrev pub HasRoomUpTo : List ℕ → TablesView → TablesView → Type 0
HasRoomUpTo needs old new = (i : ℕ) → HasNode old i
    → slice_index needs (i - 1) - known_end (table_at old i) ≤ room_of new i

-- each row of the bank may have this many entries
abbrev pub HasRoom : {X : Type 0} → List (Row X) → List ℕ → Type 0
HasRoom rows caps = (row : ℕ) → row < length caps → slice_index caps row ≤ cap_at rows row

-- as many entries more, at the known end
abbrev pub longer_table : List ℕ → List ℕ → List (Option ℕ) → NodeTable → NodeTable
longer_table lower upper choices s = record {
  front = known_end s + length lower;
  base = s.base;
  lower = s.lower ++ lower;
  upper = s.upper ++ upper;
  choices = s.choices ++ choices;
}

-- ---- what stays
-- the destination and the numbers of items
pub record SameNodes (old new : TablesView) : Type 0 where
  pub dest : new.dest ≡ old.dest
  pub nodes : length new.fronts ≡ length old.fronts
  pub bases : length new.bases ≡ length old.bases

-- all rooms but that of one node
abbrev pub SameRooms : ℕ → TablesView → TablesView → Type 0
SameRooms i old new = (j : ℕ) → 1 ≤ j → j ≢ i → room_of new j ≡ room_of old j

-- all but the table of one node
pub record OnlyAt (i : ℕ) (old new : TablesView) : Type 0 where
  pub dest : new.dest ≡ old.dest
  pub nodes : length new.fronts ≡ length old.fronts
  pub bases : length new.bases ≡ length old.bases
  pub others : (j : ℕ) → 1 ≤ j → j ≢ i → table_at new j ≡ table_at old j
