-- The bounds of the origin by its tables, and what the laws of the grid say of them.
use Rattle.std.proofs.Common.{ℕ, ◌≡◌, ◌+◌, ◌≤◌, ◌∙◌, Option, subst, arith}
use Rattle.sota_network.specs.Network.{Net}
use Rattle.sota_bounds.specs.declared.ask.AskRegion.{AskRegion}
use Rattle.sota_tables.specs.Views.{TablesView}
use Rattle.sota_quantile.specs.Needs.{least_budget}
use Rattle.sota_quantile.specs.Bounds.{HasBounds}
use Rattle.sota_quantile.proofs.Least.{first-same}

-- the region is the one that was asked for
pub asked-bounds : (made : AskRegion) (v : TablesView) (net : Net) (origin dest most : ℕ) → (made.origin ≡ origin) × (made.dest ≡ dest) × (made.budget ≡ most) → HasBounds v net made.dest made.origin made.budget → HasBounds v net dest origin most
asked-bounds made v net origin dest most asked bounds =
    subst (λ (i : ℕ). HasBounds v net dest i most) asked.0
    (subst (λ (d : ℕ). HasBounds v net d made.origin most) asked.1
    (subst (λ (t : ℕ). HasBounds v net made.dest made.origin t) asked.2 bounds))

module _ (value grid : ℕ → ℕ) (most : ℕ) (same : (t : ℕ) → t ≤ most → value t ≡ grid t) where
  pub bounds-rise : ((t u : ℕ) → t ≤ u → grid t ≤ grid u) → (t u : ℕ) → t ≤ u → u ≤ most → value t ≤ value u
  bounds-rise rises t u later within = omega (arith, same t (omega arith), same u within, rises t u later)

  pub least-is : (c : ℕ) (found : Option ℕ) → found ≡ least_budget value c most → found ≡ least_budget grid c most
  least-is c found is = is ∙ first-same value grid c 0 (most + 1) (λ t low high. same t (omega (arith, high)))
