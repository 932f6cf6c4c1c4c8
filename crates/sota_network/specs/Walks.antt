-- Walks over open arcs and their least times: as quickly as each arc can be taken.
use Rattle.std.specs.Prelude.{ℕ, ◌≡◌, ◌≢◌, ◌+◌, ◌≤◌, false, Option, None, Some}
use Rattle.sota_hist.specs.Time.{is_closed, least_tick}
use Rattle.sota_network.specs.Network.{Net, arc_at}
use Rattle.sota_network.specs.declared.network.Arc.{Arc}

-- a walk from one node to another with the sum of the least ticks of its arcs, all of them open.
-- None of them leaves the destination, since who stands there has arrived
pub data Walk (net : Net) (dest : ℕ) : ℕ → ℕ → ℕ → Type 0 where
  empty : {i : ℕ} → Walk net dest i i 0
  step : {j n : ℕ} (e : ℕ) (arc : Arc) → arc_at net e ≡ Some arc → arc.tail ≢ dest
      → is_closed arc.time ≡ false → Walk net dest arc.head j n
      → Walk net dest arc.tail j (least_tick arc.time + n)

-- some walk has this sum, and none has less
pub record IsLeast (net : Net) (dest i j n : ℕ) : Type 0 where
  pub walk : Walk net dest i j n
  pub least : (m : ℕ) → Walk net dest i j m → n ≤ m

-- the least time from node i to node j. None: unreachable, since there is no walk
abbrev pub IsLeastTime : Net → ℕ → ℕ → ℕ → Option ℕ → Type 0
IsLeastTime net dest i j None = (n : ℕ) → Walk net dest i j n → ⊥
IsLeastTime net dest i j (Some n) = IsLeast net dest i j n
