-- What networks and tables state of themselves, in the form in which it is used here.
use Rattle.std.specs.Prelude.{ℕ, ◌≡◌, ◌≢◌, ◌+◌, ◌*◌, ◌<◌, ◌≤◌, ◌⊎◌, ◌↔◌, None, Some}
use Rattle.sota_units.specs.Rounding.{ONE, floor_by}
use Rattle.sota_network.specs.Network.{Net, IsNet, IsArc, arc_at}
use Rattle.sota_network.specs.Grid.{lo, hi, choice, best_sum, plain_sum}
use Rattle.sota_network.specs.Grid.{best_of, choice_of, IsFirstBest}
use Rattle.sota_network.specs.Among.{AmongLaws}
use Rattle.sota_network.specs.Laws.{SumLaws}
use Rattle.sota_network.specs.Reads.{Reads}
use Rattle.sota_network.specs.declared.network.Arc.{Arc}
use Rattle.sota_kept.specs.NodeTables.{NodeTable, IsSettledAt, AreReady, IsExtent, known_end}
use Rattle.sota_kept.specs.NodeTables.{entry_from, lower_in, upper_in, lower_of, upper_of}
use Rattle.sota_kept.specs.Asks.{IsGridEntry}

-- a valid network, with the laws of filling at it
pub record Fillable (net : Net) : Type 0 where
  pub valid : IsNet net
  pub arc : (e : ℕ) (arc : Arc) → arc_at net e ≡ Some arc → IsArc net arc
  pub order : (dest i t : ℕ) → lo net dest i t ≤ hi net dest i t
  pub whole : (dest i t : ℕ) → hi net dest i t ≤ ONE
  pub gap : (dest i t : ℕ) → hi net dest i t ≤ lo net dest i t + 2 * t
  pub rise : (dest i t u : ℕ) → t ≤ u → lo net dest i t ≤ lo net dest i u
  pub rise_upper : (dest i t u : ℕ) → t ≤ u → hi net dest i t ≤ hi net dest i u
  pub lower : (dest i t : ℕ) → i ≢ dest
      → lo net dest i t ≡ floor_by net.scale (best_sum net (lo net dest) i t)
  pub choice : (dest i t : ℕ) → i ≢ dest
      → choice net dest i t ≡ choice_of net.arcs (λ arc. plain_sum arc (lo net dest) t) i
  pub unchosen : (worth : Arc → ℕ) (i : ℕ)
      → (choice_of net.arcs worth i ≡ None) ↔ (best_of net.arcs worth i ≡ 0)
  pub near : (worth other : Arc → ℕ) (g i : ℕ)
      → ((e : ℕ) (arc : Arc) → arc_at net e ≡ Some arc → worth arc ≤ other arc + g)
      → best_of net.arcs worth i ≤ best_of net.arcs other i + g
  pub among : AmongLaws
  pub sums : SumLaws
  pub found : (worth : Arc → ℕ) (i e : ℕ) → choice_of net.arcs worth i ≡ Some e
      → IsFirstBest net worth i e
  pub at_dest : (dest t : ℕ) → (lo net dest dest t ≡ ONE) × (hi net dest dest t ≡ ONE)
  pub settled : (dest i t : ℕ) (s : NodeTable) → IsSettledAt net dest i s → t < known_end s
      → (lower_of s t ≡ lo net dest i t) × (upper_of s t ≡ hi net dest i t)
  pub known : (dest i to t j u : ℕ) (tables : ℕ → NodeTable) → IsExtent net dest tables i to
      → t < to → Reads net i t j u → (j ≡ dest) ⊎ (u < known_end (tables j))
  pub entry : (dest i t : ℕ) (tables : ℕ → NodeTable) → i ≢ dest → AreReady net dest tables
      → ((j u : ℕ) → Reads net i t j u → (j ≡ dest) ⊎ (u < known_end (tables j)))
      → IsGridEntry net dest i t
      (entry_from net (lower_in dest tables) (upper_in dest tables) i t)
