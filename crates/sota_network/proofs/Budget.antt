-- What `by_budget` gives satisfies its step, where the step reads only smaller budgets.
use Rattle.std.proofs.Common.{ℕ, zero, suc, ◌≡◌, ◌<◌, arith}
use Rattle.sota_network.specs.Grid.{Causal, by_budget, repeated}

-- once a budget is settled, more repetitions change nothing at it
repeated-agree : {X : Type 0} (x : X) (step : (ℕ → ℕ → X) → ℕ → ℕ → X) → Causal step → (k l i u : ℕ) → u < k → u < l → repeated x step k i u ≡ repeated x step l i u
repeated-agree x step causal zero l i u h g = absurd (omega arith)
repeated-agree x step causal (suc k) zero i u h g = absurd (omega arith)
repeated-agree x step causal (suc k) (suc l) i u h g =
    causal (repeated x step k) (repeated x step l) i u (λ j v w. repeated-agree x step causal k l j v (omega arith) (omega arith))

pub by_budget-is : {X : Type 0} (x : X) (step : (ℕ → ℕ → X) → ℕ → ℕ → X) → Causal step → (i t : ℕ) → by_budget x step i t ≡ step (by_budget x step) i t
unfolding by_budget
by_budget-is x step causal i t =
    causal (repeated x step t) (λ j u. repeated x step (suc u) j u) i t (λ j u h. repeated-agree x step causal t (suc u) j u h (omega arith))
