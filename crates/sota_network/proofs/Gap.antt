-- The lower and the upper value are in order, differ by at most two units a tick, and are at most
-- one whole.
use Rattle.std.proofs.Common.{ℕ, zero, suc, ◌≡◌, ◌+◌, ◌-◌, ◌*◌, ◌/◌, ◌%◌, ◌<◌, ◌≤◌, Option, arith, ⊎_elim}
use Rattle.std.proofs.lemmas.List.Elements.{All-weaker}
use Rattle.std.proofs.lemmas.Bool.{cases_eq, cases_lt}
use Rattle.std.proofs.Math.Nat.{mul-le-mul_right, div-add-mod, div-mul-le_self, mod-lt}
use Rattle.sota_hist.specs.Time.{total}
use Rattle.sota_network.specs.Network.{Net, IsNet, IsArc}
use Rattle.sota_network.specs.Grid.{plain_sum, best_sum, lo, hi}
use Rattle.sota_network.specs.Sound.{Sound}
use Rattle.sota_network.specs.declared.network.Arc.{Arc}
use Rattle.sota_units.specs.Rounding.{ONE, floor_by, ceiling_by}
use Rattle.sota_network.proofs.Sums.{weighed-le, weighed-bound}
use Rattle.sota_network.proofs.Best.{best-le, best-bound}
use Rattle.sota_network.proofs.Recursion.{arc-valid}
use Rattle.sota_network.proofs.Pairs.{cancel}
use Rattle.sota_network.proofs.Outward.{lo-at_dest, lo-elsewhere, hi-at_dest, hi-elsewhere}

-- a quotient is below each bound whose multiple is above the number
pub quotient-le : (q x n : ℕ) → 1 ≤ q → x < (n + 1) * q → x / q ≤ n
quotient-le q x n pos h =
    let whole : q * (x / q) + x % q ≡ x = div-add-mod x q in
    ⊎_elim
    (λ over.
    let more : (n + 1) * q ≤ x / q * q = mul-le-mul_right q (let y : n + 1 ≤ x / q = omega arith in y) in
    absurd (omega arith))
    (λ fine. fine)
    (cases_lt n (x / q))

-- a number is below the next multiple
below-next : (q y : ℕ) → 1 ≤ q → y < (y / q + 1) * q
below-next q y pos =
    let whole : q * (y / q) + y % q ≡ y = div-add-mod y q in
    let rest : y % q < q = mod-lt y (let p : 0 < q = omega arith in p) in
    omega arith

-- the ceiling of what is larger by at most q * g, against the floor
pub ceiling-gap : (q x y g : ℕ) → 1 ≤ q → x ≤ y + q * g → ceiling_by q x ≤ floor_by q y + (g + 1)
ceiling-gap q x y g pos h =
    let next : y < (y / q + 1) * q = below-next q y pos in
    quotient-le q (x + (q - 1)) (y / q + (g + 1)) pos (omega arith)

pub floor-le-ceiling : (q x y : ℕ) → 1 ≤ q → y ≤ x → floor_by q y ≤ ceiling_by q x
floor-le-ceiling q x y pos h =
    let next : x + (q - 1) < ((x + (q - 1)) / q + 1) * q = below-next q (x + (q - 1)) pos in
    quotient-le q y ((x + (q - 1)) / q) pos (omega arith)

pub floor-down : (q x : ℕ) → floor_by q x * q ≤ x
floor-down q x = div-mul-le_self x q

pub floor-le : (q x m : ℕ) → 1 ≤ q → x ≤ q * m → floor_by q x ≤ m
floor-le q x m pos h = quotient-le q x m pos (omega arith)

pub ceiling-le : (q x m : ℕ) → 1 ≤ q → x ≤ q * m → ceiling_by q x ≤ m
ceiling-le q x m pos h = quotient-le q (x + (q - 1)) m pos (omega arith)

module _ (net : Net) (valid : IsNet net) (dest : ℕ) where
  -- values at smaller budgets that differ by at most g make greatest sums that differ by at most
  -- scale * g
  best-gap : (f h : ℕ → ℕ → ℕ) (g i t : ℕ) → ((j u : ℕ) → u < t → f j u ≤ h j u + g) → best_sum net f i t ≤ best_sum net h i t + net.scale * g
  best-gap f h g i t below =
      best-le (λ a. plain_sum a f t) (λ a. plain_sum a h t) (net.scale * g) i net.arcs
      (All-weaker (IsArc net) (λ a. a.tail ≡ i → plain_sum a f t ≤ plain_sum a h t + net.scale * g)
      (λ a v tail.
      let more : plain_sum a f t ≤ plain_sum a h t + total a.time * g = weighed-le (f a.head) (h a.head) g t 0 (λ u less. below a.head u less) a.time v.time in
      let most : total a.time * g ≤ net.scale * g = mul-le-mul_right g v.total in
      omega arith)
      net.arcs valid.arcs)

  best-within : (f : ℕ → ℕ → ℕ) (m i t : ℕ) → ((j u : ℕ) → u < t → f j u ≤ m) → best_sum net f i t ≤ net.scale * m
  best-within f m i t below =
      best-bound (λ a. plain_sum a f t) (net.scale * m) i net.arcs
      (All-weaker (IsArc net) (λ a. plain_sum a f t ≤ net.scale * m)
      (λ a v.
      let more : plain_sum a f t ≤ total a.time * m = weighed-bound (f a.head) m t 0 (λ u less. below a.head u less) a.time v.time in
      let most : total a.time * m ≤ net.scale * m = mul-le-mul_right m v.total in
      omega arith)
      net.arcs valid.arcs)

  -- the two values are in order, differ by at most two units a tick, and are at most one whole
  abbrev Near : ℕ → ℕ → Type 0
  Near i t = (lo net dest i t ≤ hi net dest i t) × (hi net dest i t ≤ lo net dest i t + 2 * t) × (hi net dest i t ≤ ONE)

  module _ (i t : ℕ) (under : (j u : ℕ) → u < t → Near j u) where
    near-order : best_sum net (lo net dest) i t ≤ best_sum net (hi net dest) i t
    near-order =
        let order : best_sum net (lo net dest) i t ≤ best_sum net (hi net dest) i t + net.scale * 0 =
        best-gap (lo net dest) (hi net dest) 0 i t (λ j u less. omega (arith, (under j u less).0)) in
        omega arith

    near-whole : best_sum net (hi net dest) i t ≤ net.scale * ONE
    near-whole = best-within (hi net dest) ONE i t (λ j u less. (under j u less).2)

    near-later : 0 < t → ceiling_by net.scale (best_sum net (hi net dest) i t) ≤ floor_by net.scale (best_sum net (lo net dest) i t) + 2 * t
    near-later positive =
        let gap : best_sum net (hi net dest) i t ≤ best_sum net (lo net dest) i t + net.scale * (2 * (t - 1)) =
        best-gap (hi net dest) (lo net dest) (2 * (t - 1)) i t (λ j u less. omega (arith, (under j u less).1)) in
        let close : ceiling_by net.scale (best_sum net (hi net dest) i t) ≤ floor_by net.scale (best_sum net (lo net dest) i t) + (2 * (t - 1) + 1) =
        ceiling-gap net.scale (best_sum net (hi net dest) i t) (best_sum net (lo net dest) i t) (2 * (t - 1)) valid.scale gap in
        omega arith

    near-start : t ≤ 0 → ceiling_by net.scale (best_sum net (hi net dest) i t) ≤ floor_by net.scale (best_sum net (lo net dest) i t) + 2 * t
    near-start at_zero =
        let nothing : best_sum net (hi net dest) i t ≤ net.scale * 0 = best-within (hi net dest) 0 i t (λ j u less. absurd (omega arith)) in
        let small : ceiling_by net.scale (best_sum net (hi net dest) i t) ≤ 0 = ceiling-le net.scale (best_sum net (hi net dest) i t) 0 valid.scale nothing in
        omega arith

    near-off : (i ≡ dest → ⊥) → Near i t
    near-off off =
        rw (lo-elsewhere net valid dest i t off, hi-elsewhere net valid dest i t off) (
          floor-le-ceiling net.scale (best_sum net (hi net dest) i t) (best_sum net (lo net dest) i t) valid.scale near-order,
          ⊎_elim near-later near-start (cases_lt 0 t),
          ceiling-le net.scale (best_sum net (hi net dest) i t) ONE valid.scale near-whole,
        )

  near-below : (k i t : ℕ) → t < k → Near i t
  near-below zero i t h = absurd (omega arith)
  near-below (suc k) i t h =
      ⊎_elim
      (λ at. rw (lo-at_dest net valid dest i t at, hi-at_dest net valid dest i t at) (omega arith, omega arith, omega arith))
      (λ off. near-off i t (λ j u less. near-below k j u (omega arith)) off)
      (cases_eq i dest)

  pub near : (i t : ℕ) → Near i t
  near i t = near-below (suc t) i t (omega arith)

-- values that a rule keeps up are at most one whole
module _ (net : Net) (valid : IsNet net) (dest : ℕ) (v : ℕ → ℕ → ℕ) (rule : ℕ → ℕ → Option ℕ) (sound : Sound net dest v rule) where
  whole-below : (k i t : ℕ) → t < k → v i t ≤ ONE
  whole-below zero i t h = absurd (omega arith)
  whole-below (suc k) i t h =
      ⊎_elim
      (λ (at : i ≡ dest). rw at (sound.at_dest t))
      (λ (off : i ≡ dest → ⊥).
      ⊎_elim
      (λ (positive : 0 < v i t).
      let found = sound.elsewhere i t off positive in
      let a : Arc = found.1 in
      let is : IsArc net a = arc-valid net valid found.0 a found.3 in
      let sum : plain_sum a v t ≤ total a.time * ONE =
      weighed-bound (v a.head) ONE t 0 (λ u less. whole-below k a.head u (omega arith)) a.time is.time in
      let most : total a.time * ONE ≤ net.scale * ONE = mul-le-mul_right ONE is.total in
      cancel net.scale (v i t) ONE valid.scale (omega (arith, found.5)))
      (λ (none : v i t ≤ 0). omega arith)
      (cases_lt 0 (v i t)))
      (cases_eq i dest)

  pub sound-whole : (i t : ℕ) → v i t ≤ ONE
  sound-whole i t = whole-below (suc t) i t (omega arith)
