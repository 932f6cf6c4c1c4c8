-- When the least times of a network stay as they are.
use Rattle.std.specs.Prelude.{ℕ, ◌≡◌, List, Some}
use Rattle.sota_hist.specs.Time.{is_closed, least_tick}
use Rattle.sota_network.specs.Network.{Net, arc_at}
use Rattle.sota_network.specs.declared.network.Arc.{Arc}

-- another time of this arc leaves them: it is closed where the arc's own is, and else begins at the
-- same tick
pub record KeepsTicks (net : Net) (number : ℕ) (time : List (ℕ × ℕ)) : Type 0 where
  pub edited : Arc
  pub found : arc_at net number ≡ Some edited
  pub least : least_tick time ≡ least_tick edited.time
  pub closed : is_closed time ≡ is_closed edited.time
