-- The grid of a timed network satisfies its recursion: each step reads only smaller budgets.
use Rattle.std.proofs.Common.{ℕ, zero, suc, ◌≡◌, ◌<◌, refl, sym, ◌∙◌, ap, arith, ◌==◌, if◌then◌else◌}
use Rattle.std.proofs.lemmas.Bool.{eq-eqb, ne_eqb}
use Rattle.sota_units.specs.Rounding.{ONE}
use Rattle.sota_network.specs.Network.{Net, IsNet, IsArc}
use Rattle.sota_network.specs.Grid.{plain_sum, best_sum, choice_of, Causal}
use Rattle.sota_period.specs.Laws.{NetworkLaws}
use Rattle.sota_period.specs.Periods.{TimedNet, IsTimedNet}
use Rattle.sota_period.specs.Grid.{timed_step, timed_value}
use Rattle.sota_period.proofs.Best.{best-agree, choice-agree, Each}

-- sums read only smaller budgets
pub sums-agree : NetworkLaws → (net : Net) → IsNet net → (f g : ℕ → ℕ → ℕ) (i t : ℕ)
    → ((j u : ℕ) → u < t → f j u ≡ g j u)
    → Each net i (λ a. plain_sum a f t ≡ plain_sum a g t)
sums-agree laws net valid f g i t agree e a is tail =
    let v : IsArc net a = laws.arc net e a valid is in
    laws.sums.same (f a.head) (g a.head) t a.time v.time (λ u less. agree a.head u less)

pub best-reads : NetworkLaws → (net : Net) → IsNet net → (f g : ℕ → ℕ → ℕ) (i t : ℕ)
    → ((j u : ℕ) → u < t → f j u ≡ g j u) → best_sum net f i t ≡ best_sum net g i t
best-reads laws net valid f g i t agree =
    best-agree laws net (λ a. plain_sum a f t) (λ a. plain_sum a g t) i
    (sums-agree laws net valid f g i t agree)

pub choice-reads : NetworkLaws → (net : Net) → IsNet net → (f g : ℕ → ℕ → ℕ) (i t : ℕ)
    → ((j u : ℕ) → u < t → f j u ≡ g j u)
    → choice_of net.arcs (λ a. plain_sum a f t) i ≡ choice_of net.arcs (λ a. plain_sum a g t) i
choice-reads laws net valid f g i t agree =
    choice-agree laws net (λ a. plain_sum a f t) (λ a. plain_sum a g t) i
    (sums-agree laws net valid f g i t agree)

module _ (laws : NetworkLaws) (net : TimedNet) (nodes : ℕ) (is : IsTimedNet net nodes) (round : ℕ → ℕ → ℕ) (dest : ℕ) where
  step-causal : Causal (timed_step round net dest)
  step-causal f g i t agree =
      ap (λ (b : ℕ). if i == dest then ONE else round (net.at t).scale b)
      (best-reads laws (net.at t) (is.valid t) f g i t agree)

  pub value-is : (i t : ℕ) → timed_value round net dest i t ≡ timed_step round net dest (timed_value round net dest) i t
  unfolding timed_value
  value-is i t = laws.settles 0 (timed_step round net dest) step-causal i t

  pub value-at_dest : (i t : ℕ) → i ≡ dest → timed_value round net dest i t ≡ ONE
  value-at_dest i t at = value-is i t ∙ (rw (eq-eqb i dest at) refl)

  pub value-elsewhere : (i t : ℕ) → (i ≡ dest → ⊥) → timed_value round net dest i t
      ≡ round net.scale (best_sum (net.at t) (timed_value round net dest) i t)
  value-elsewhere i t off =
      value-is i t ∙ (rw (ne_eqb i dest off) (ap (λ (q : ℕ). round q (best_sum (net.at t) (timed_value round net dest) i t)) (is.scale t)))

  -- whatever satisfies the recursion below a budget is the grid there
  pub value-only : (f : ℕ → ℕ → ℕ) (last : ℕ) → ((i t : ℕ) → t < last → f i t ≡ timed_step round net dest f i t)
      → (k i t : ℕ) → t < k → t < last → f i t ≡ timed_value round net dest i t
  value-only f last recurs zero i t h below = absurd (omega arith)
  value-only f last recurs (suc k) i t h below =
      recurs i t below
      ∙ step-causal f (timed_value round net dest) i t (λ j u less. value-only f last recurs k j u (omega arith) (omega arith))
      ∙ sym (value-is i t)
