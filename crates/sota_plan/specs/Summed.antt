-- How far the two summers of an arc are fed.
use Rattle.std.specs.Prelude.{ℕ, ◌≡◌, ◌+◌, ◌-◌, ◌≤◌, false, length, Option, Some}
use Rattle.sota_hist.specs.Time.{is_closed, least_tick}
use Rattle.sota_network.specs.Network.{Net, arc_at}
use Rattle.sota_network.specs.Grid.{lo, hi}
use Rattle.sota_network.specs.declared.network.Arc.{Arc}
use Rattle.sota_online.specs.Summer.{SummerState, kernel_of}
use Rattle.sota_kept.specs.Ticks.{least_to}
use Rattle.sota_fill.specs.declared.broad.Summers.{Summers}
use Rattle.sota_fill.specs.Fed.{IsFed, SummersList, summers_at}

-- how many values at the head of an arc the budgets below `to` rest on, from the head's least time
-- on
abbrev pub values_below : Net → ℕ → Arc → ℕ → ℕ
values_below net dest arc to = to - (least_tick arc.time + least_to net dest arc.head)

-- both summers of an open arc were fed so many of the grid's values at its head, of the most that
-- they can be fed, and their sums are read from a start on
pub record IsSummed {Z : Type 0} (state : Z → SummerState) (net : Net) (dest : ℕ) (arc : Arc)
    (count total start : ℕ) (two : Summers Z) : Type 0 where
  pub open_arc : is_closed arc.time ≡ false
  pub lower : IsFed (state two.lower) arc.time (least_to net dest arc.head) (lo net dest arc.head)
  pub upper : IsFed (state two.upper) arc.time (least_to net dest arc.head) (hi net dest arc.head)
  pub lower_count : length (state two.lower).values ≡ count
  pub upper_count : length (state two.upper).values ≡ count
  pub lower_total : length (state two.lower).values + (state two.lower).room ≡ total
  pub upper_total : length (state two.upper).values + (state two.upper).room ≡ total
  pub lower_start : (state two.lower).start ≡ start
  pub upper_start : (state two.upper).start ≡ start

-- the arc has two such summers
pub record SummedAs {Z : Type 0} (state : Z → SummerState) (net : Net) (dest : ℕ) (arc : Arc)
    (count total start : ℕ) (found : Option (Summers Z)) : Type 0 where
  pub two : Summers Z
  pub are : found ≡ Some two
  pub is : IsSummed state net dest arc count total start two

-- its summers, where it has them, can be fed the values that the budgets below `to` rest on, in
-- room for kernels of so many places
pub record CanFeed {Z : Type 0} (state : Z → SummerState) (net : Net) (dest : ℕ) (arc : Arc)
    (to places : ℕ) (two : Summers Z) : Type 0 where
  pub count : ℕ
  pub total : ℕ
  pub start : ℕ
  pub is : IsSummed state net dest arc count total start two
  pub less : count ≤ values_below net dest arc to
  pub room : values_below net dest arc to ≤ total
  pub work : length (kernel_of total arc.time) ≤ places

-- the same of each arc that leaves node i
abbrev pub AllCanFeed : {Z : Type 0} → (Z → SummerState) → Net → ℕ → ℕ → ℕ → ℕ → SummersList Z
    → Type 0
AllCanFeed state net dest i to places broad = (e : ℕ) (arc : Arc) (two : _)
    → arc_at net e ≡ Some arc → arc.tail ≡ i → summers_at broad e ≡ Some two
    → CanFeed state net dest arc to places two
