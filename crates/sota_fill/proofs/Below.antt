-- Sums that are below what the last entry of their node is worth.
use Rattle.std.proofs.Common.{ℕ, suc, ◌≡◌, ◌≢◌, ◌+◌, ◌-◌, ◌*◌, ◌<◌, ◌≤◌, min, Some, false, List, [], ◌∷◌, length, get_or, refl, sym, ◌∙◌, ap, arith, ⊎_elim}
use Rattle.std.proofs.Math.ListN.{get_or-eq_default}
use Rattle.std.proofs.Math.Nat.{mul-le-mul_left, mul-le-mul_right}
use Rattle.std.proofs.lemmas.Bool.{cases_lt, cases_eq, eq-eqb, ne_eqb, lt-ltb, le-ltb}
use Rattle.std.proofs.lemmas.Nat.{div-add-mod'}
use Rattle.sota_units.specs.Rounding.{floor_by}
use Rattle.sota_hist.specs.Time.{IsTime, total, is_closed, least_tick}
use Rattle.sota_network.specs.Network.{Net, IsNode, IsArc, arc_at}
use Rattle.sota_network.specs.Grid.{lo, hi, weighed, plain_sum, best_sum}
use Rattle.sota_network.specs.Laws.{SumLaws}
use Rattle.sota_network.specs.declared.network.Arc.{Arc}
use Rattle.sota_kept.specs.NodeTables.{NodeTable, IsReadyAt, AreReady, known_end, lower_in, upper_in, lower_of, upper_of, entry_from}
use Rattle.sota_kept.specs.Asks.{IsGridEntry}
use Rattle.sota_fill.specs.Beaten.{IsBeaten}
use Rattle.sota_fill.specs.Laws.{Fillable}
use Rattle.sota_fill.specs.Fills.{ReadsAs}
use Rattle.sota_fill.proofs.PairSums.{weighed-same}
use Rattle.sota_fill.proofs.Feeding.{rises-least}
use Rattle.sota_fill.proofs.Summed.{sums-agree}

-- values of at most a number below the floor, as far as a time reads them
below-sum : SumLaws → (f : ℕ → ℕ) (most floor q t : ℕ) (time : List (ℕ × ℕ)) → IsTime time → total time ≤ q → 1 ≤ q → most < floor
    → ((u : ℕ) → u + least_tick time ≤ t → f u ≤ most) → weighed f t time < q * floor
below-sum sums f most floor q t time r few some less bound =
    let g : ℕ → ℕ = λ u. min (f u) most in
    let same : weighed f t time ≡ weighed g t time = weighed-same f g t (least_tick time - 1) time (rises-least time r) (λ u h. let b : f u ≤ most = bound u (omega arith) in omega arith) in
    let small : weighed g t time ≤ total time * most = sums.whole g most t time r (λ u early. omega arith) in
    let all : total time * most ≤ q * most = mul-le-mul_right most few in
    let more : q * suc most ≤ q * floor = mul-le-mul_left q less in
    omega (arith, same, small, all, more, some)

-- the upper sum is at most the greatest of the lower ones and two units a tick
far-sum : SumLaws → (low up l h : ℕ → ℕ) (from count x most q floor : ℕ) (time : List (ℕ × ℕ)) → IsTime time → total time ≤ q → x < count
    → (is_closed time ≡ false → (u : ℕ) → u + least_tick time < from + count → low u ≡ l u) → (is_closed time ≡ false → (u : ℕ) → u + least_tick time < from + count → up u ≡ h u)
    → ((u : ℕ) → h u ≤ l u + 2 * u) → ((a b : ℕ) → a ≤ b → l a ≤ l b) → most ≡ weighed low (from + (count - 1)) time → most + q * (2 * (from + count)) < q * floor
    → weighed up (from + x) time < q * floor
far-sum sums low up l h from count x most q floor [] r few less reads-low reads-up gap rise is far = omega arith
far-sum sums low up l h from count x most q floor (p ∷ ps) r few less reads-low reads-up gap rise is far =
    let time : List (ℕ × ℕ) = p ∷ ps in
    let upper : weighed h (from + x) time ≡ weighed up (from + x) time = sums-agree h up from x count time r less (reads-up refl) in
    let lower : weighed l (from + (count - 1)) time ≡ weighed low (from + (count - 1)) time = sums-agree l low from (count - 1) count time r (omega arith) (reads-low refl) in
    let apart : weighed h (from + x) time ≤ weighed l (from + x) time + total time * (2 * (from + count)) = sums.near h l (2 * (from + count)) (from + x) time r (λ u early. omega (arith, gap u)) in
    let later : weighed l (from + x) time ≤ weighed l (from + (count - 1)) time = sums.rise l (from + x) (from + (count - 1)) time r (λ a b _ up. rise a b up) (omega arith) in
    let all : total time * (2 * (from + count)) ≤ q * (2 * (from + count)) = mul-le-mul_right (2 * (from + count)) few in
    omega (arith, upper, lower, apart, later, all, is, far)

-- a rounded sum times the scale is no greater than the sum
floor-times : (q x : ℕ) → q * floor_by q x ≤ x
floor-times q x = omega (arith, div-add-mod' x q)

past-end : (xs : List ℕ) (k : ℕ) → length xs ≤ k → get_or xs k 0 ≡ 0
past-end xs k h = get_or-eq_default xs 0 h

module _ (net : Net) (laws : Fillable net) (dest : ℕ) (tables : ℕ → NodeTable) where
  -- an arc that is beaten has both sums below the floor
  module _ (arc : Arc) (to floor t : ℕ) (is : IsArc net arc) (reads : ReadsAs net dest arc to tables) (beaten : IsBeaten dest arc to floor tables) (early : t < to) where
    abbrev most : ℕ
    most = upper_in dest tables arc.head (to - 1 - least_tick arc.time)

    read-le : (u : ℕ) → u + least_tick arc.time ≤ t → hi net dest arc.head u ≤ most
    read-le u less =
        let last : most ≡ hi net dest arc.head (to - 1 - least_tick arc.time) = reads.upper beaten.open_arc (to - 1 - least_tick arc.time) (omega (arith, beaten.early)) in
        omega (arith, last, laws.rise_upper dest arc.head u (to - 1 - least_tick arc.time) (omega arith))

    pub beaten-lower : plain_sum arc (lower_in dest tables) t < net.scale * floor
    beaten-lower =
        below-sum laws.sums (lower_in dest tables arc.head) most floor net.scale t arc.time is.time is.total laws.valid.scale beaten.below
        (λ u less. omega (arith, reads.lower beaten.open_arc u (omega arith), laws.order dest arc.head u, read-le u less))

    pub beaten-upper : plain_sum arc (upper_in dest tables) t < net.scale * floor
    beaten-upper =
        below-sum laws.sums (upper_in dest tables arc.head) most floor net.scale t arc.time is.time is.total laws.valid.scale beaten.below
        (λ u less. omega (arith, reads.upper beaten.open_arc u (omega arith), read-le u less))

  -- an arc whose lower sums are far below the floor has its upper ones below it
  pub far-upper : (arc : Arc) (from count x most floor : ℕ) → IsArc net arc → ReadsAs net dest arc (from + count) tables → x < count → most ≡ plain_sum arc (lower_in dest tables) (from + (count - 1))
      → most + net.scale * (2 * (from + count)) < net.scale * floor → plain_sum arc (upper_in dest tables) (from + x) < net.scale * floor
  far-upper arc from count x most floor is reads less read far =
      far-sum laws.sums (lower_in dest tables arc.head) (upper_in dest tables arc.head) (lo net dest arc.head) (hi net dest arc.head) from count x most net.scale floor arc.time is.time is.total less reads.lower reads.upper
      (laws.gap dest arc.head) (laws.rise dest arc.head) read far

  module _ (ready : AreReady net dest tables) where
    rows-order : (j u : ℕ) → IsNode net j → j ≢ dest → lower_of (tables j) u ≤ upper_of (tables j) u
    rows-order j u node off =
        let s : NodeTable = tables j in
        let kept = (ready j node off).settled.kept in
        ⊎_elim
        (λ (low : u < s.base). rw (lt-ltb u s.base low) (omega arith))
        (λ (high : s.base ≤ u).
        ⊎_elim
        (λ (old : u < s.front). omega (arith, kept.lower u high old, kept.upper u high old, laws.order dest j u))
        (λ (late : s.front ≤ u).
        let none : get_or s.lower (u - s.base) 0 ≡ 0 = past-end s.lower (u - s.base) (omega (arith, kept.shape.lower)) in
        rw (le-ltb u s.base high) (omega (arith, none)))
        (cases_lt u s.front))
        (cases_lt u s.base)

    values-order : (j u : ℕ) → IsNode net j → lower_in dest tables j u ≤ upper_in dest tables j u
    values-order j u node =
        ⊎_elim
        (λ (at : j ≡ dest). rw (eq-eqb j dest at) (omega arith))
        (λ (off : j ≡ dest → ⊥). rw (ne_eqb j dest off) (rows-order j u node off))
        (cases_eq j dest)

    sums-order : (e : ℕ) (arc : Arc) → arc_at net e ≡ Some arc → (t : ℕ) → plain_sum arc (lower_in dest tables) t ≤ plain_sum arc (upper_in dest tables) t + 0
    sums-order e arc at t =
        let is : IsArc net arc = laws.arc e arc at in
        let more : plain_sum arc (lower_in dest tables) t ≤ plain_sum arc (upper_in dest tables) t + total arc.time * 0 =
        laws.sums.near (lower_in dest tables arc.head) (upper_in dest tables arc.head) 0 t arc.time is.time (λ u early. omega (arith, values-order arc.head u is.head)) in
        omega arith

    pub bests-order : (i t : ℕ) → best_sum net (lower_in dest tables) i t ≤ best_sum net (upper_in dest tables) i t
    bests-order i t =
        let most : best_sum net (lower_in dest tables) i t ≤ best_sum net (upper_in dest tables) i t + 0 =
        laws.near (λ (a : Arc). plain_sum a (lower_in dest tables) t) (λ (a : Arc). plain_sum a (upper_in dest tables) t) 0 i (λ e arc at. sums-order e arc at t) in
        omega arith

  -- the last lower value of a node times the scale is no greater than its best sum later
  pub floor-lower : (i u floor : ℕ) → i ≢ dest → IsReadyAt net dest i (tables i) → floor ≡ get_or (tables i).lower (length (tables i).lower - 1) 0 → known_end (tables i) ≤ u
      → IsGridEntry net dest i u (entry_from net (lower_in dest tables) (upper_in dest tables) i u) → net.scale * floor ≤ best_sum net (lower_in dest tables) i u
  floor-lower i u floor off ready is past right =
      let s : NodeTable = tables i in
      let kept = ready.settled.kept in
      let best : ℕ = best_sum net (lower_in dest tables) i u in
      let under : floor ≤ lo net dest i u =
      ⊎_elim
      (λ (some : 0 < length s.lower).
      let t : ℕ = s.front - 1 in
      let low : s.base ≤ t = omega (arith, kept.shape.lower) in
      let less : t < s.front = omega (arith, kept.shape.lower) in
      let place : t - s.base ≡ length s.lower - 1 = omega (arith, kept.shape.lower) in
      let last : get_or s.lower (t - s.base) 0 ≡ lo net dest i t = (rw (le-ltb t s.base low) at (kept.lower t low less)) in
      let value : floor ≡ lo net dest i t = is ∙ ap (λ (k : ℕ). get_or s.lower k 0) (sym place) ∙ last in
      omega (arith, value, laws.rise dest i t u (omega arith)))
      (λ (none : length s.lower ≤ 0).
      let zero : get_or s.lower (length s.lower - 1) 0 ≡ 0 = past-end s.lower (length s.lower - 1) (omega arith) in
      omega (arith, is, zero))
      (cases_lt 0 (length s.lower)) in
      let more : net.scale * floor ≤ net.scale * floor_by net.scale best = mul-le-mul_left net.scale (omega (arith, under, right.lower)) in
      omega (arith, more, floor-times net.scale best)
