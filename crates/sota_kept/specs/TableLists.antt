-- Tables of all nodes: lists with one item a node, that of node i at the index i - 1.
use Rattle.std.specs.Prelude.{ℕ, ◌≡◌, ◌-◌, ◌≤◌, List, [], length, slice_index, slice_index_or}
use Rattle.std.specs.Prelude.{Option, None, Some}
use Rattle.sota_network.specs.Network.{Net, IsNode}
use Rattle.sota_kept.specs.NodeTables.{NodeTable, IsNodeTable, AreKept, AreSettled}
use Rattle.sota_kept.specs.States.{State}

pub record TableLists : Type 0 where
  pub dest : Option ℕ
  pub fronts : List ℕ
  pub bases : List ℕ
  pub lower : List (List ℕ)
  pub upper : List (List ℕ)
  pub choices : List (List (Option ℕ))

-- that of node i
abbrev pub table_of : TableLists → ℕ → NodeTable
table_of held i = record {
  front = slice_index held.fronts (i - 1);
  base = slice_index held.bases (i - 1);
  lower = slice_index_or held.lower (i - 1) [];
  upper = slice_index_or held.upper (i - 1) [];
  choices = slice_index_or held.choices (i - 1) [];
}

-- how far they are kept
abbrev pub state_of : TableLists → State
state_of held = record { dest = held.dest; fronts = held.fronts; bases = held.bases }

-- no destination and no entry, or what is kept of each node but the destination is right
abbrev pub EntriesKept : Net → TableLists → Option ℕ → Type 0
EntriesKept net held None =
    (i : ℕ) → IsNode net i → (table_of held i).front ≤ (table_of held i).base
EntriesKept net held (Some dest) = IsNode net dest × AreKept net dest (table_of held)

-- the tables are right for the network: the numbers of nodes agree, and each entry is the grid's
pub record IsKept (held : TableLists) (net : Net) : Type 0 where
  pub nodes : (length held.fronts ≡ net.nodes) × (length held.bases ≡ net.nodes)
  pub entries : EntriesKept net held held.dest

-- where there is a destination, the grid is 0 at each other node and budget without an entry below
-- the known end
abbrev pub EntriesSettled : Net → TableLists → Option ℕ → Type 0
EntriesSettled net held None = Unit {0}
EntriesSettled net held (Some dest) = AreSettled net dest (table_of held)

-- besides, no entry is missing below a known end. Only an edit that lowers a least time below a
-- base leaves tables that are kept and not settled, until the next ask
pub record IsSettled (held : TableLists) (net : Net) : Type 0 where
  pub kept : IsKept held net
  pub settled : EntriesSettled net held held.dest

-- what tables always have: as many items in each list as there are nodes, and rows as long as the
-- fronts say
pub record AreTables (held : TableLists) (nodes : ℕ) : Type 0 where
  pub fronts : length held.fronts ≡ nodes
  pub bases : length held.bases ≡ nodes
  pub tables : (i : ℕ) → 1 ≤ i → i ≤ nodes → IsNodeTable (table_of held i)
