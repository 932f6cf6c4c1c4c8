-- Arcs that cannot be best at some budgets of their tail.
use Rattle.std.specs.Prelude.{ℕ, ◌≡◌, ◌-◌, ◌<◌, ◌⊎◌, max, false}
use Rattle.sota_hist.specs.Time.{is_closed, least_tick}
use Rattle.sota_network.specs.declared.network.Arc.{Arc}
use Rattle.sota_kept.specs.NodeTables.{NodeTable, upper_in}

-- the upper value at an open arc's head is below a floor at the greatest budget that its sums read
-- at budgets below `to`
pub record IsBeaten (dest : ℕ) (arc : Arc) (to floor : ℕ) (tables : ℕ → NodeTable) : Type 0 where
  pub open_arc : is_closed arc.time ≡ false
  pub early : least_tick arc.time < to
  pub below : upper_in dest tables arc.head (to - 1 - least_tick arc.time) < floor

-- the greatest of some sums, where one more was looked at, or was passed over below a floor
abbrev pub IsRaised : ℕ → ℕ → ℕ → ℕ → Type 0
IsRaised floor old sum new = (new ≡ max old sum) ⊎ ((new ≡ old) × (sum < floor))
