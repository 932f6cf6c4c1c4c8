-- How far tables are kept over asks and edits: the destination, and for each node a front and a
-- base. The entries kept are those from the base up to the front.
use Rattle.std.specs.Prelude.{ℕ, ◌-◌, ◌==◌, min, max, nat_le, nat_lt, Bool, false, List}
use Rattle.std.specs.Prelude.{slice_index, Option, None, Some, if◌then◌else◌}
use Rattle.std.specs.List.{sum}
use Rattle.sota_network.specs.Network.{Net}
use Rattle.sota_network.specs.Numbers.{listed}
use Rattle.sota_network.specs.Region.{need}
use Rattle.sota_network.specs.declared.network.Arc.{Arc}
use Rattle.sota_kept.specs.Ticks.{END_LIMIT, least_to}
use Rattle.sota_kept.specs.Edits.{first_affected}

pub record State : Type 0 where
  pub dest : Option ℕ
  pub fronts : List ℕ
  pub bases : List ℕ

-- those of node i
abbrev pub front_of : State → ℕ → ℕ
front_of state i = slice_index state.fronts (i - 1)

abbrev pub base_of : State → ℕ → ℕ
base_of state i = slice_index state.bases (i - 1)

-- the greater of a front and a base, that of node i: all below it is known
abbrev pub end_at : List ℕ → List ℕ → ℕ → ℕ
end_at fronts bases i = max (slice_index fronts (i - 1)) (slice_index bases (i - 1))

-- the most entries that are kept
abbrev pub KEPT_LIMIT : ℕ
KEPT_LIMIT = 60000000

-- at first nothing is kept
abbrev pub first_state : ℕ → State
first_state nodes = record {
  dest = None;
  fronts = listed (λ i. 0) nodes;
  bases = listed (λ i. END_LIMIT) nodes;
}

-- ---- an edit
-- no entry stays at or above the first affected budget of its node
abbrev pub after_edit : Net → Arc → ℕ → State → State
after_edit net arc first state =
    elim state.dest [
      | None ↦ state
      | Some dest ↦ record state {
        fronts =
            listed (λ i. min (front_of state i) (first_affected net dest arc first i)) net.nodes;
      }
    ]

-- ---- an ask of `origin` to `dest` with the budget `last`, in four steps
abbrev pub is_dest : Option ℕ → ℕ → Bool
is_dest None dest = false
is_dest (Some d) dest = d == dest

-- another destination begins afresh
abbrev pub started_state : Net → ℕ → State → State
started_state net dest state =
    if is_dest state.dest dest
    then state
    else record { dest = Some dest; fronts = listed (λ i. 0) net.nodes; bases = state.bases }

-- a node without an entry above its least time has that as its base
abbrev pub least_base : Net → ℕ → State → ℕ → ℕ
least_base net dest state i =
    if nat_le (front_of state i) (least_to net dest i) then least_to net dest i else base_of state i

abbrev pub based_state : Net → ℕ → State → State
based_state net dest state = record {
  dest = state.dest;
  fronts = state.fronts;
  bases = listed (least_base net dest state) net.nodes;
}

-- how many entries are kept once the needs are met
abbrev pub cells_kept : Net → ℕ → ℕ → ℕ → State → ℕ
cells_kept net origin dest last state =
    sum (listed
    (λ i. max (front_of state i) (need net origin dest last i) - base_of state i) net.nodes)

-- where that is too many, all begins afresh
abbrev pub limited_state : Net → ℕ → ℕ → ℕ → State → State
limited_state net origin dest last state =
    if nat_lt KEPT_LIMIT (cells_kept net origin dest last state)
    then record {
      dest = state.dest;
      fronts = listed (λ i. 0) net.nodes;
      bases = listed (least_to net dest) net.nodes;
    }
    else state

-- after the three steps that add no entry
abbrev pub prepared_state : Net → ℕ → ℕ → ℕ → State → State
prepared_state net origin dest last state =
    limited_state net origin dest last (based_state net dest (started_state net dest state))

-- the last: each front reaches the need
abbrev pub grown_state : Net → ℕ → ℕ → ℕ → State → State
grown_state net origin dest last state = record {
  dest = state.dest;
  fronts = listed (λ i. max (front_of state i) (need net origin dest last i)) net.nodes;
  bases = state.bases;
}

abbrev pub after_ask : Net → ℕ → ℕ → ℕ → State → State
after_ask net origin dest last state =
    grown_state net origin dest last (prepared_state net origin dest last state)

-- the entries that the last step adds, where the fronts and bases are those of a state
abbrev pub missing_in : Net → ℕ → ℕ → ℕ → State → ℕ
missing_in net origin dest last state =
    sum (listed
    (λ i. need net origin dest last i - end_at state.fronts state.bases i) net.nodes)

abbrev pub missing : Net → ℕ → ℕ → ℕ → State → ℕ
missing net origin dest last state =
    missing_in net origin dest last (prepared_state net origin dest last state)
