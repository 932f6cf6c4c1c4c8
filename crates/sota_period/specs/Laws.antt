-- What a network states of itself and of sums, in the form in which it is used here.
use Rattle.std.specs.Prelude.{ℕ, ◌≡◌, ◌≤◌, ◌↔◌, Some, None}
use Rattle.sota_network.specs.Network.{Net, IsNet, IsArc, arc_at}
use Rattle.sota_network.specs.Grid.{best_of, choice_of, IsFirstBest, Causal, by_budget}
use Rattle.sota_network.specs.declared.network.Arc.{Arc}
use Rattle.sota_network.specs.Laws.{SumLaws, TickLaws, RoundLaws, PairLaws}

-- a sum reads only smaller budgets, the two roundings are outward, bounds of scores go pair by
-- pair, a step that reads only smaller budgets settles, the arcs of a valid network are valid, and
-- a choice among those that leave a node is the first with the greatest worth
pub record NetworkLaws : Type 0 where
  pub sums : SumLaws
  pub ticks : TickLaws
  pub rounding : RoundLaws
  pub pairs : PairLaws
  pub settles : (x : ℕ) (step : (ℕ → ℕ → ℕ) → ℕ → ℕ → ℕ) → Causal step → (i t : ℕ)
      → by_budget x step i t ≡ step (by_budget x step) i t
  pub arc : (net : Net) (e : ℕ) (arc : Arc) → IsNet net → arc_at net e ≡ Some arc
      → IsArc net arc
  pub greatest : (net : Net) (worth : Arc → ℕ) (e : ℕ) (arc : Arc) → arc_at net e ≡ Some arc
      → worth arc ≤ best_of net.arcs worth arc.tail
  pub none : (net : Net) (worth : Arc → ℕ) (i : ℕ)
      → (choice_of net.arcs worth i ≡ None) ↔ (best_of net.arcs worth i ≡ 0)
  pub found : (net : Net) (worth : Arc → ℕ) (i e : ℕ)
      → choice_of net.arcs worth i ≡ Some e → IsFirstBest net worth i e
