-- The summers of broad arcs, and what they were fed.
use Rattle.std.specs.Prelude.{ℕ, ◌≡◌, ◌+◌, ◌-◌, ◌≤◌, ◌&&◌, nat_lt, Bool, false, List}
use Rattle.std.specs.Prelude.{length, slice_index_or, Option, None, Some, Box, if◌then◌else◌}
use Rattle.std.specs.declared.alloc.Global.{Global}
use Rattle.sota_bank.specs.Rows.{Row}
use Rattle.sota_hist.specs.Time.{is_closed, least_tick, within}
use Rattle.sota_network.specs.Network.{Net, arc_at}
use Rattle.sota_network.specs.Region.{NARROW}
use Rattle.sota_network.specs.declared.network.Arc.{Arc}
use Rattle.sota_online.specs.Summer.{SummerState, unfed}
use Rattle.sota_fill.specs.Fed.{IsFed, IsSameSummer}
use Rattle.sota_period.specs.Needs.{node_need}
use Rattle.sota_period.specs.Rows.{timed_row, row_value, row_room}

-- the summers that stand for each arc by its number, where it has one
abbrev pub SummerList : Type 0 → Type 0
SummerList Z = List (Option (Box Z Global))

abbrev pub summer_state : {Z : Type 0} → (Z → SummerState) → Option (Box Z Global)
    → Option SummerState
summer_state state None = None
summer_state state (Some summer) = Some (state summer.value)

abbrev pub state_at : {Z : Type 0} → (Z → SummerState) → SummerList Z → ℕ → Option SummerState
state_at state broad e = summer_state state (slice_index_or broad (e - 1) None)

-- whether the sums of an arc are made by a summer: its tail needs a budget from `from` on, and the
-- arc has more than 32 ticks within what its tail needs
abbrev pub is_summed : List ℕ → ℕ → Arc → Bool
is_summed needs from arc = nat_lt from (node_need needs arc.tail)
    && nat_lt NARROW (length (within (node_need needs arc.tail - 1) arc.time))

-- a summer of an arc that was fed nothing yet, with room for so many values, whose sums are read at
-- the budgets from one on
abbrev pub unfed_from : ℕ → ℕ → Arc → SummerState
unfed_from width from arc = unfed width (from + 1 - least_tick arc.time) arc.time

-- such a summer where it is wanted, with room for what the head needs
abbrev pub first_summer_state : List ℕ → ℕ → Arc → Option SummerState
first_summer_state needs from arc =
    if is_summed needs from arc then Some (unfed_from (node_need needs arc.head) from arc) else None

-- how long the kernel of a summer is, 0 where there is none
abbrev pub kernel_length : Option SummerState → ℕ
kernel_length None = 0
kernel_length (Some state) = length state.kernel

-- there is room to work for it
abbrev pub IsWorkFor : ℕ → Option SummerState → Type 0
IsWorkFor places state = kernel_length state ≤ places

-- the sums of an arc's summer may be read at the budgets from one on, and there is room to work
-- for its kernel
pub record IsReadySummer (arc : Arc) (from places : ℕ) (state : SummerState) : Type 0 where
  pub start : state.start ≤ from + 1 - least_tick arc.time
  pub work : length state.kernel ≤ places

-- the same of all summers
abbrev pub AllReady : Net → ℕ → ℕ → (ℕ → Option SummerState) → Type 0
AllReady net from places at = (e : ℕ) (arc : Arc) (state : SummerState) → arc_at net e ≡ Some arc
    → at e ≡ Some state → IsReadySummer arc from places state

-- the summers that stand there now are those that stood there before, but for what they were fed
abbrev pub AreSame : (ℕ → Option SummerState) → (ℕ → Option SummerState) → Type 0
AreSame before after = (e : ℕ) (state : SummerState) → 1 ≤ e → after e ≡ Some state
    → (was : SummerState) × (before e ≡ Some was) × IsSameSummer was state

-- the summer of an open arc was fed values of its head's row, and has room for the row
pub record IsFedArc (rows : List (Row ℕ)) (arc : Arc) (state : SummerState) : Type 0 where
  pub open_arc : is_closed arc.time ≡ false
  pub fed : IsFed state arc.time 0 (row_value rows arc.head)
  pub count : length state.values ≤ length (timed_row rows arc.head)
  pub total : length state.values + state.room ≡ row_room rows arc.head

-- the same of all summers
abbrev pub AllFedRows : List (Row ℕ) → Net → (ℕ → Option SummerState) → Type 0
AllFedRows rows net at = (e : ℕ) (arc : Arc) (state : SummerState) → arc_at net e ≡ Some arc
    → at e ≡ Some state → IsFedArc rows arc state

-- what the sums of an open arc read at budgets below `to` stands in its head's row
abbrev pub IsRead : List (Row ℕ) → ℕ → Arc → Type 0
IsRead rows to arc = is_closed arc.time ≡ false
    → to ≤ least_tick arc.time + length (timed_row rows arc.head)

-- the same of all arcs that leave node i
abbrev pub AllRead : List (Row ℕ) → ℕ → Net → ℕ → Type 0
AllRead rows to net i = (e : ℕ) (arc : Arc) → arc_at net e ≡ Some arc → arc.tail ≡ i
    → IsRead rows to arc

-- summers, one for each arc that has one, which were fed from the rows and can make the sums at the
-- budgets from one on in this room
pub record AreSummers {Z : Type 0} (state : Z → SummerState) (rows : List (Row ℕ)) (net : Net)
    (from places : ℕ) (broad : SummerList Z) : Type 0 where
  pub count : length broad ≡ length net.arcs
  pub fed : AllFedRows rows net (state_at state broad)
  pub ready : AllReady net from places (state_at state broad)

-- summers that can make the sums at the budgets from one on still can, in this room
abbrev pub StillSummers : {Z : Type 0} → (Z → SummerState) → List (Row ℕ) → Net → ℕ → SummerList Z
    → ℕ → SummerList Z → Type 0
StillSummers state rows net before old after new = (t : ℕ)
    → AreSummers state rows net t before old → AreSummers state rows net t after new
