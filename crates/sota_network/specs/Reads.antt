-- Which entries of a grid an entry is made of.
use Rattle.std.specs.Prelude.{ℕ, ◌≡◌, ◌-◌, ◌≤◌, slice_get, Some}
use Rattle.sota_network.specs.Network.{Net, arc_at}
use Rattle.sota_network.specs.declared.network.Arc.{Arc}

-- the entry of node i at budget t reads that of node j at budget u: an arc goes from i to j, and
-- one of its pairs within the budget leaves u
pub record Reads (net : Net) (i t j u : ℕ) : Type 0 where
  pub number : ℕ
  pub arc : Arc
  pub is_arc : arc_at net number ≡ Some arc
  pub tail : arc.tail ≡ i
  pub head : arc.head ≡ j
  pub index : ℕ
  pub pair : ℕ × ℕ
  pub is_pair : slice_get arc.time index ≡ Some pair
  pub in_time : pair.0 ≤ t
  pub left : u ≡ t - pair.0
