-- What networks state of the lower values of the grid, in the form in which it is used here.
use Rattle.std.specs.Prelude.{ℕ, ◌≡◌, ◌≢◌, ◌≤◌, ◌⊎◌, true, false, Some, None}
use Rattle.sota_units.specs.Rounding.{floor_by}
use Rattle.sota_network.specs.Network.{Net}
use Rattle.sota_network.specs.Grid.{lo, hi, choice, value_from, best_sum, plain_sum}
use Rattle.sota_network.specs.Grid.{best_of, choice_of, IsFirstBest}
use Rattle.sota_network.specs.Walks.{Walk}
use Rattle.sota_network.specs.Reach.{reaches, in_region}
use Rattle.sota_network.specs.Reads.{Reads}
use Rattle.sota_network.specs.declared.network.Arc.{Arc}

-- the laws of the lower values and choices, and of the region of an ask
pub record GridLaws (net : Net) (origin dest last : ℕ) : Type 0 where
  pub lower : (i t : ℕ) → lo net dest i t ≡ value_from floor_by net dest (lo net dest) i t
  pub order : (i t : ℕ) → lo net dest i t ≤ hi net dest i t
  pub below : (i t : ℕ) → reaches net dest dest i t ≡ false → hi net dest i t ≡ 0
  pub reach : (i j t n : ℕ) → Walk net dest i j n → n ≤ t → reaches net dest j i t ≡ true
  pub made : (i t : ℕ) (table : ℕ → ℕ → ℕ) → i ≢ dest
      → ((j u : ℕ) → Reads net i t j u → table j u ≡ lo net dest j u)
      → lo net dest i t ≡ floor_by net.scale (best_sum net table i t)
  pub chosen : (i t : ℕ) (table : ℕ → ℕ → ℕ) → i ≢ dest
      → ((j u : ℕ) → Reads net i t j u → table j u ≡ lo net dest j u)
      → choice net dest i t ≡ choice_of net.arcs (λ arc. plain_sum arc table t) i
  pub none : (worth : Arc → ℕ) (i : ℕ) → choice_of net.arcs worth i ≡ None
      → best_of net.arcs worth i ≡ 0
  pub first : (worth : Arc → ℕ) (i e : ℕ) → choice_of net.arcs worth i ≡ Some e
      → IsFirstBest net worth i e
  pub closed : (i t j u : ℕ) → in_region net origin dest last i t ≡ true → Reads net i t j u
      → (j ≡ dest)
      ⊎ ((in_region net origin dest last j u ≡ true) ⊎ (reaches net dest dest j u ≡ false))
