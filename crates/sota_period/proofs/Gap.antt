-- The two values are in order, differ by at most two units a tick, and are at most one whole.
use Rattle.std.proofs.Common.{ℕ, zero, suc, ◌≡◌, ◌+◌, ◌-◌, ◌*◌, ◌<◌, ◌≤◌, arith, ⊎_elim}
use Rattle.std.proofs.lemmas.Bool.{cases_eq, cases_lt}
use Rattle.std.proofs.Math.Nat.{mul-le-mul_right}
use Rattle.sota_units.specs.Rounding.{ONE, floor_by, ceiling_by}
use Rattle.sota_hist.specs.Time.{total}
use Rattle.sota_network.specs.Network.{Net, IsNet, IsArc}
use Rattle.sota_network.specs.Grid.{plain_sum, best_sum}
use Rattle.sota_period.specs.Laws.{NetworkLaws}
use Rattle.sota_period.specs.Periods.{TimedNet, IsTimedNet}
use Rattle.sota_period.specs.Grid.{tlo, thi}
use Rattle.sota_period.proofs.Best.{best-bound, best-le}
use Rattle.sota_period.proofs.Grid.{value-at_dest, value-elsewhere}
use Rattle.sota_period.proofs.Upper.{scale-positive}

module _ (laws : NetworkLaws) (net : Net) (valid : IsNet net) where
  -- values at smaller budgets that differ by at most g make greatest sums that differ by at most
  -- scale * g
  best-gap : (f h : ℕ → ℕ → ℕ) (g i t : ℕ) → ((j u : ℕ) → u < t → f j u ≤ h j u + g) → best_sum net f i t ≤ best_sum net h i t + net.scale * g
  best-gap f h g i t below =
      best-le laws net (λ a. plain_sum a f t) (λ a. plain_sum a h t) i (net.scale * g)
      (λ e a is tail.
      let v : IsArc net a = laws.arc net e a valid is in
      let more : plain_sum a f t ≤ plain_sum a h t + total a.time * g = laws.sums.near (f a.head) (h a.head) g t a.time v.time (λ u less. below a.head u less) in
      let most : total a.time * g ≤ net.scale * g = mul-le-mul_right g v.total in
      omega arith)

  pub best-within : (f : ℕ → ℕ → ℕ) (m i t : ℕ) → ((j u : ℕ) → u < t → f j u ≤ m) → best_sum net f i t ≤ net.scale * m
  best-within f m i t below =
      best-bound laws net (λ a. plain_sum a f t) i (net.scale * m)
      (λ e a is tail.
      let v : IsArc net a = laws.arc net e a valid is in
      let more : plain_sum a f t ≤ total a.time * m = laws.sums.whole (f a.head) m t a.time v.time (λ u less. below a.head u less) in
      let most : total a.time * m ≤ net.scale * m = mul-le-mul_right m v.total in
      omega arith)

module _ (laws : NetworkLaws) (net : TimedNet) (nodes : ℕ) (is : IsTimedNet net nodes) (dest : ℕ) where
  abbrev Near : ℕ → ℕ → Type 0
  Near i t = (tlo net dest i t ≤ thi net dest i t) × (thi net dest i t ≤ tlo net dest i t + 2 * t) × (thi net dest i t ≤ ONE)

  module _ (i t : ℕ) (under : (j u : ℕ) → u < t → Near j u) where
    abbrev low : ℕ
    low = best_sum (net.at t) (tlo net dest) i t

    abbrev high : ℕ
    high = best_sum (net.at t) (thi net dest) i t

    near-order : low ≤ high
    near-order =
        let order : low ≤ high + (net.at t).scale * 0 =
        best-gap laws (net.at t) (is.valid t) (tlo net dest) (thi net dest) 0 i t (λ j u less. omega (arith, (under j u less).0)) in
        omega arith

    near-whole : high ≤ net.scale * ONE
    near-whole =
        let most : high ≤ (net.at t).scale * ONE = best-within laws (net.at t) (is.valid t) (thi net dest) ONE i t (λ j u less. (under j u less).2) in
        omega (arith, is.scale t)

    near-later : 0 < t → ceiling_by net.scale high ≤ floor_by net.scale low + 2 * t
    near-later positive =
        let gap : high ≤ low + (net.at t).scale * (2 * (t - 1)) =
        best-gap laws (net.at t) (is.valid t) (thi net dest) (tlo net dest) (2 * (t - 1)) i t (λ j u less. omega (arith, (under j u less).1)) in
        let same : high ≤ low + net.scale * (2 * (t - 1)) = rw (is.scale t) at gap in
        let close : ceiling_by net.scale high ≤ floor_by net.scale low + (2 * (t - 1) + 1) =
        laws.rounding.gap net.scale low high (2 * (t - 1)) (scale-positive net nodes is) same in
        omega arith

    near-start : t ≤ 0 → ceiling_by net.scale high ≤ floor_by net.scale low + 2 * t
    near-start at_zero =
        let nothing : high ≤ (net.at t).scale * 0 = best-within laws (net.at t) (is.valid t) (thi net dest) 0 i t (λ j u less. absurd (omega arith)) in
        let small : ceiling_by net.scale high ≤ 0 = (laws.rounding.whole net.scale high 0 (scale-positive net nodes is) (omega arith)).1 in
        omega arith

    near-off : (i ≡ dest → ⊥) → Near i t
    near-off off =
        rw (value-elsewhere laws net nodes is floor_by dest i t off, value-elsewhere laws net nodes is ceiling_by dest i t off) (
          laws.rounding.order net.scale low high (scale-positive net nodes is) near-order,
          ⊎_elim near-later near-start (cases_lt 0 t),
          (laws.rounding.whole net.scale high ONE (scale-positive net nodes is) near-whole).1,
        )

  near-below : (k i t : ℕ) → t < k → Near i t
  near-below zero i t h = absurd (omega arith)
  near-below (suc k) i t h =
      ⊎_elim
      (λ at. rw (value-at_dest laws net nodes is floor_by dest i t at, value-at_dest laws net nodes is ceiling_by dest i t at) (omega arith, omega arith, omega arith))
      (λ off. near-off i t (λ j u less. near-below k j u (omega arith)) off)
      (cases_eq i dest)

  pub near : (i t : ℕ) → Near i t
  near i t = near-below (suc t) i t (omega arith)
