-- The last entry of a node, where it settles all further ones.
use Rattle.std.specs.Prelude.{ℕ, ◌≡◌, ◌-◌, ◌==◌, length, slice_get, Some}
use Rattle.sota_units.specs.Rounding.{ONE}
use Rattle.sota_network.specs.Network.{Net}
use Rattle.sota_network.specs.Numbers.{numbers}
use Rattle.sota_kept.specs.NodeTables.{NodeTable}

-- the last entry of node i is certain, and takes arc e, the first that leaves the node. More time
-- makes no value less, and none is above one: so each further entry is the same
pub record EndsCertain (net : Net) (i e : ℕ) (s : NodeTable) : Type 0 where
  pub value : slice_get s.lower (length s.lower - 1) ≡ Some ONE
  pub choice : slice_get s.choices (length s.choices - 1) ≡ Some (Some e)
  pub first : slice_get (numbers (λ arc. arc.tail == i) 1 net.arcs) 0 ≡ Some e
