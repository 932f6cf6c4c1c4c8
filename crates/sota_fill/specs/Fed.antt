-- What the summers of an arc were fed.
use Rattle.std.specs.Prelude.{ℕ, ◌≡◌, ◌-◌, ◌+◌, ◌<◌, ◌≤◌, false, List, length, slice_index}
use Rattle.std.specs.Prelude.{slice_index_or, Option, None, Some}
use Rattle.sota_hist.specs.Time.{is_closed, least_tick}
use Rattle.sota_network.specs.Network.{Net, IsNode, arc_at}
use Rattle.sota_network.specs.Grid.{lo, hi}
use Rattle.sota_network.specs.declared.network.Arc.{Arc}
use Rattle.sota_online.specs.Summer.{SummerState, kernel_of}
use Rattle.sota_kept.specs.Ticks.{END_LIMIT, least_to, up_to}
use Rattle.sota_fill.specs.declared.broad.Summers.{Summers}
use Rattle.sota_fill.specs.declared.target.Target.{Target}

-- a summer of an arc's time whose values are those of f from a base on, below which f is 0
pub record IsFed (state : SummerState) (time : List (ℕ × ℕ)) (base : ℕ) (f : ℕ → ℕ) : Type 0 where
  pub kernel : state.kernel ≡ kernel_of (length state.values + state.room) time
  pub values : (a : ℕ) → a < length state.values → slice_index state.values a ≡ f (base + a)
  pub below : (u : ℕ) → u < base → f u ≡ 0

-- what feeding leaves of a summer: its kernel, its start, and how many values it can hold
pub record IsSameSummer (old new : SummerState) : Type 0 where
  pub kernel : new.kernel ≡ old.kernel
  pub start : new.start ≡ old.start
  pub total : length new.values + new.room ≡ length old.values + old.room

-- the summer was fed all that the budgets from one on below `to` read, and their sums may be read
abbrev pub Reaches : SummerState → List (ℕ × ℕ) → ℕ → ℕ → ℕ → Type 0
Reaches state time base from to = (state.start ≤ from + 1 - (least_tick time + base))
    × (to ≤ least_tick time + base + length state.values)

-- the two summers of an open arc were fed the grid's values at its head, from the least time of the
-- head on, as far as the budgets from one on below `to` read them
pub record AreFed {Z : Type 0} (state : Z → SummerState) (net : Net) (dest : ℕ) (arc : Arc)
    (from to : ℕ) (two : Summers Z) : Type 0 where
  pub open_arc : is_closed arc.time ≡ false
  pub lower : IsFed (state two.lower) arc.time (least_to net dest arc.head) (lo net dest arc.head)
  pub upper : IsFed (state two.upper) arc.time (least_to net dest arc.head) (hi net dest arc.head)
  pub lower_reach : Reaches (state two.lower) arc.time (least_to net dest arc.head) from to
  pub upper_reach : Reaches (state two.upper) arc.time (least_to net dest arc.head) from to

-- the summers that stand for each arc by its number, where it has them
abbrev pub SummersList : Type 0 → Type 0
SummersList Z = List (Option (Summers Z))

abbrev pub summers_at : {Z : Type 0} → SummersList Z → ℕ → Option (Summers Z)
summers_at broad e = slice_index_or broad (e - 1) None

-- those of the arcs that leave node i
abbrev pub AllFed : {Z : Type 0} → (Z → SummerState) → Net → ℕ → ℕ → ℕ → ℕ
    → SummersList Z → Type 0
AllFed state net dest i from to broad = (e : ℕ) (arc : Arc) (two : _) → arc_at net e ≡ Some arc
    → arc.tail ≡ i → summers_at broad e ≡ Some two → AreFed state net dest arc from to two

-- the least times of the nodes of a network to a destination on it, None where there is none
pub record IsTarget (target : Target) : Type 0 where
  pub nodes : length target.least.now ≡ target.network.now.nodes
  pub times : (i : ℕ) → IsNode target.network.now i
      → up_to END_LIMIT (slice_index_or target.least.now (i - 1) None)
      ≡ least_to target.network.now target.dest i
