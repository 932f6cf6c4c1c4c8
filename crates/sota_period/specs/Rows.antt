-- The rows of values of all nodes.
use Rattle.std.specs.Prelude.{ℕ, ◌≡◌, ◌+◌, ◌-◌, ◌^◌, ◌<◌, ◌≤◌, min, false, List, length}
use Rattle.std.specs.Prelude.{slice_index}
use Rattle.std.specs.List.{All, sum}
use Rattle.sota_units.specs.Rounding.{floor_by, ceiling_by}
use Rattle.sota_units.specs.Limits.{BUDGET_LIMIT}
use Rattle.sota_bank.specs.Rows.{Row, list_at, cap_at}
use Rattle.sota_hist.specs.Time.{is_closed, least_tick}
use Rattle.sota_network.specs.Network.{Net, IsNode}
use Rattle.sota_network.specs.declared.network.Arc.{Arc}
use Rattle.sota_sums.specs.declared.bound.Bound.{Bound}
use Rattle.sota_sums.specs.declared.bound.Bound.TheVariants.{Lower, Upper}
use Rattle.sota_period.specs.Periods.{TimedNet, ArePeriods, first_net, timed_net}
use Rattle.sota_period.specs.Needs.{AreTimedNeeds, AreVisited, node_need}
use Rattle.sota_period.specs.Grid.{timed_value}
use Rattle.sota_period.specs.declared.ask.Ask.{Ask}
use Rattle.sota_period.specs.declared.ask.Block.{Block}

-- the row of node i: its values at budgets from 0 on
abbrev pub timed_row : List (Row ℕ) → ℕ → List ℕ
timed_row rows i = list_at rows (i - 1)

-- the value of node i at budget t, 0 where its row ends before
abbrev pub row_value : List (Row ℕ) → ℕ → ℕ → ℕ
row_value rows i t = slice_index (timed_row rows i) t

-- how many values its row can have
abbrev pub row_room : List (Row ℕ) → ℕ → ℕ
row_room rows i = cap_at rows (i - 1)

-- the rounding of a bound
abbrev pub round_of : Bound → ℕ → ℕ → ℕ
round_of Lower = floor_by
round_of Upper = ceiling_by

-- what is asked: the network, and its values of a bound
abbrev pub asked_net : Ask → TimedNet
asked_net ask = timed_net ask.timed.now ask.deadline

abbrev pub asked_value : Ask → ℕ → ℕ → ℕ
asked_value ask i t = timed_value (round_of ask.bound) (asked_net ask) ask.dest i t

-- the nodes of its network, and how many budgets each needs
abbrev pub asked_nodes : Ask → ℕ
asked_nodes ask = (first_net ask.timed.now).nodes

abbrev pub asked_need : Ask → ℕ → ℕ
asked_need ask i = node_need ask.needs.now i

-- an ask within the limits
pub record IsAsk (ask : Ask) : Type 0 where
  pub periods : ArePeriods ask.timed.now
  pub dest : IsNode (first_net ask.timed.now) ask.dest
  pub budget : ask.budget ≤ BUDGET_LIMIT
  pub deadline : ask.budget ≤ ask.deadline
  pub needs : AreTimedNeeds ask.timed.now ask.dest (ask.budget + 1) ask.needs.now
  pub total : sum ask.needs.now ≤ 2 ^ 31
  pub visited : AreVisited ask.needs.now ask.dest ask.visited.now

-- rows with room for what each node needs. All their entries are values, and each has those at the
-- budgets below one that its node needs, and that of the destination all
pub record AreRows (ask : Ask) (upto : ℕ) (rows : List (Row ℕ)) : Type 0 where
  pub count : length rows ≡ asked_nodes ask
  pub room : (i : ℕ) → 1 ≤ i → i ≤ asked_nodes ask → row_room rows i ≡ asked_need ask i
  pub entry : (i t : ℕ) → 1 ≤ i → i ≤ asked_nodes ask → t < length (timed_row rows i)
      → row_value rows i t ≡ asked_value ask i t
  pub reach : (i : ℕ) → 1 ≤ i → i ≤ asked_nodes ask
      → min upto (asked_need ask i) ≤ length (timed_row rows i)
  pub arrived : asked_need ask ask.dest ≤ length (timed_row rows ask.dest)

-- rows that begin with those of before
pub record AreLonger (old new : List (Row ℕ)) : Type 0 where
  pub count : length new ≡ length old
  pub room : (i : ℕ) → row_room new i ≡ row_room old i
  pub long : (i : ℕ) → length (timed_row old i) ≤ length (timed_row new i)
  pub entry : (i t : ℕ) → t < length (timed_row old i) → row_value new i t ≡ row_value old i t

-- at these budgets this is the network
abbrev pub PeriodHolds : Ask → Net → ℕ → ℕ → Type 0
PeriodHolds ask net from to = (t : ℕ) → from ≤ t → t < to → (asked_net ask).at t ≡ net

-- no open arc is passed in less time
abbrev pub TakesAtLeast : ℕ → List Arc → Type 0
TakesAtLeast ticks arcs = All (λ arc. is_closed arc.time ≡ false → ticks ≤ least_tick arc.time) arcs

-- a block of at most 64 budgets in a row, at which this is the network and no value reads another,
-- since each open arc takes at least as many ticks
pub record IsBlock (block : Block) : Type 0 where
  pub asked : IsAsk block.ask.now
  pub some : 1 ≤ block.count
  pub few : block.count ≤ 64
  pub limit : block.from + block.count ≤ block.ask.now.budget + 1
  pub holds : PeriodHolds block.ask.now block.network.now block.from (block.from + block.count)
  pub takes : TakesAtLeast block.count block.network.now.arcs
