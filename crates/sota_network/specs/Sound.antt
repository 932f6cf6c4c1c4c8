-- Values that a rule keeps up, which is all that a lower bound needs, and values that no arc
-- exceeds, which is all that an upper bound needs.
use Rattle.std.specs.Prelude.{ℕ, ◌≡◌, ◌≢◌, ◌*◌, ◌<◌, ◌≤◌, Option, Some}
use Rattle.sota_units.specs.Rounding.{ONE}
use Rattle.sota_network.specs.Network.{Net, arc_at}
use Rattle.sota_network.specs.Grid.{plain_sum}
use Rattle.sota_network.specs.declared.network.Arc.{Arc}

-- at the destination a value is at most one whole. Elsewhere it is 0, or the rule's arc leaves the
-- node and its plain sum is worth the value. It looks at each entry by itself, and not at how the
-- values were found
pub record Sound (net : Net) (dest : ℕ) (v : ℕ → ℕ → ℕ) (rule : ℕ → ℕ → Option ℕ) : Type 0 where
  pub at_dest : (t : ℕ) → v dest t ≤ ONE
  pub elsewhere : (i t : ℕ) → i ≢ dest → 0 < v i t
      → (e : ℕ) × (arc : Arc) × (rule i t ≡ Some e) × (arc_at net e ≡ Some arc) × (arc.tail ≡ i)
      × (v i t * net.scale ≤ plain_sum arc v t)

-- at the destination a value is at least one whole. Elsewhere no arc that leaves the node is worth
-- more than the value
pub record Covers (net : Net) (dest : ℕ) (v : ℕ → ℕ → ℕ) : Type 0 where
  pub at_dest : (t : ℕ) → ONE ≤ v dest t
  pub elsewhere : (i t e : ℕ) (arc : Arc) → i ≢ dest → arc_at net e ≡ Some arc → arc.tail ≡ i
      → plain_sum arc v t ≤ v i t * net.scale
