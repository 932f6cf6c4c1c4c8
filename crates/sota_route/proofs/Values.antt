-- The values of a route are at most one whole, in order, and close to each other.
use Rattle.std.proofs.Common.{ℕ, ◌≡◌, ◌+◌, ◌*◌, ◌<◌, ◌≤◌, List, [], ◌∷◌, length, Option, None, Some, refl, sym, ◌∙◌, ap, arith, ⊎_elim}
use Rattle.std.proofs.lemmas.Bool.{eq-eqb, ne_eqb, cases_eq}
use Rattle.std.proofs.Math.Nat.{mul-le-mul_right}
use Rattle.sota_units.specs.Rounding.{ONE, floor_by, ceiling_by}
use Rattle.sota_hist.specs.Time.{total}
use Rattle.sota_network.specs.Network.{Net, IsArc, arc_at}
use Rattle.sota_network.specs.Grid.{weighed}
use Rattle.sota_network.specs.declared.network.Arc.{Arc}
use Rattle.sota_network.specs.Laws.{SumLaws, RoundLaws}
use Rattle.sota_sums.specs.Bounds.{rounded_in}
use Rattle.sota_sums.specs.declared.bound.Bound.{Bound}
use Rattle.sota_sums.specs.declared.bound.Bound.TheVariants.{Lower, Upper}
use Rattle.sota_route.specs.Bounds.{value_before, route_value}

-- a rounded sum of at most q wholes
rounded-whole : RoundLaws → (q x : ℕ) → 1 ≤ q → x ≤ q * ONE → (r : Bound) → rounded_in r q x ≤ ONE
rounded-whole rounding q x some most Lower = (rounding.whole q x ONE some most).0
rounded-whole rounding q x some most Upper = (rounding.whole q x ONE some most).1

-- the value before an arc, at the destination and elsewhere
pub before-at_dest : (round : ℕ → ℕ → ℕ) (net : Net) (dest : ℕ) (arc : Arc) (v : ℕ → ℕ) (t : ℕ)
    → arc.tail ≡ dest → value_before round net dest arc v t ≡ ONE
before-at_dest round net dest arc v t h = rw (eq-eqb arc.tail dest h) refl

pub before-elsewhere : (round : ℕ → ℕ → ℕ) (net : Net) (dest : ℕ) (arc : Arc) (v : ℕ → ℕ) (t : ℕ)
    → (arc.tail ≡ dest → ⊥)
    → value_before round net dest arc v t ≡ round net.scale (weighed v t arc.time)
before-elsewhere round net dest arc v t h = rw (ne_eqb arc.tail dest h) refl

-- the value of a route, arc by arc
pub value-end : (round : ℕ → ℕ → ℕ) (net : Net) (dest t : ℕ)
    → route_value round net dest [] t ≡ ONE
unfolding route_value
value-end round net dest t = refl

pub value-go : (round : ℕ → ℕ → ℕ) (net : Net) (dest e : ℕ) (rest : List ℕ) (arc : Arc) (t : ℕ)
    → arc_at net e ≡ Some arc → route_value round net dest (e ∷ rest) t
    ≡ value_before round net dest arc (route_value round net dest rest) t
unfolding route_value
value-go round net dest e rest arc t is = rw (is, route_value) refl

pub value-lost : (round : ℕ → ℕ → ℕ) (net : Net) (dest e : ℕ) (rest : List ℕ) (t : ℕ)
    → arc_at net e ≡ None → route_value round net dest (e ∷ rest) t ≡ 0
unfolding route_value
value-lost round net dest e rest t is = rw (is, route_value) refl

module _ (sums : SumLaws) (rounding : RoundLaws) (net : Net) (scale : 1 ≤ net.scale) (dest : ℕ)
    (valid : (e : ℕ) (arc : Arc) → arc_at net e ≡ Some arc → IsArc net arc) where
  weighed-whole : (v : ℕ → ℕ) (t : ℕ) (arc : Arc) → IsArc net arc → ((u : ℕ) → u < t → v u ≤ ONE)
      → weighed v t arc.time ≤ net.scale * ONE
  weighed-whole v t arc is h =
      let most : weighed v t arc.time ≤ total arc.time * ONE = sums.whole v ONE t arc.time is.time h in
      let few : total arc.time * ONE ≤ net.scale * ONE = mul-le-mul_right ONE is.total in
      omega arith

  before-whole : (r : Bound) (v : ℕ → ℕ) (t : ℕ) (arc : Arc) → IsArc net arc
      → ((u : ℕ) → u < t → v u ≤ ONE) → value_before (rounded_in r) net dest arc v t ≤ ONE
  before-whole r v t arc is h =
      ⊎_elim
      (λ at. rw (before-at_dest (rounded_in r) net dest arc v t at) (omega arith))
      (λ off. rw (before-elsewhere (rounded_in r) net dest arc v t off)
      (rounded-whole rounding net.scale (weighed v t arc.time) scale (weighed-whole v t arc is h) r))
      (cases_eq arc.tail dest)

  value-whole_by : (r : Bound) (e : ℕ) (rest : List ℕ) (t : ℕ)
      → ((u : ℕ) → route_value (rounded_in r) net dest rest u ≤ ONE)
      → (found : Option Arc) → arc_at net e ≡ found
      → route_value (rounded_in r) net dest (e ∷ rest) t ≤ ONE
  value-whole_by r e rest t after None is =
      rw (value-lost (rounded_in r) net dest e rest t is) (omega arith)
  value-whole_by r e rest t after (Some arc) is =
      rw (value-go (rounded_in r) net dest e rest arc t is)
      (before-whole r (route_value (rounded_in r) net dest rest) t arc (valid e arc is)
      (λ u less. after u))

  -- no value of a route is above one whole
  pub value-whole : (r : Bound) (route : List ℕ) (t : ℕ)
      → route_value (rounded_in r) net dest route t ≤ ONE
  value-whole r [] t = rw (value-end (rounded_in r) net dest t) (omega arith)
  value-whole r (e ∷ rest) t =
      value-whole_by r e rest t (λ u. value-whole r rest u) (arc_at net e) refl

  -- two values in order, the upper one larger by at most g
  abbrev pub Near : ℕ → ℕ → ℕ → Type 0
  Near g low high = (low ≤ high) × (high ≤ low + g)

  before-near : (v w : ℕ → ℕ) (g t : ℕ) (arc : Arc) → IsArc net arc
      → ((u : ℕ) → u < t → Near g (v u) (w u))
      → Near (g + 1) (value_before floor_by net dest arc v t) (value_before ceiling_by net dest arc w t)
  before-near v w g t arc is h =
      ⊎_elim
      (λ at. rw (before-at_dest floor_by net dest arc v t at, before-at_dest ceiling_by net dest arc w t at)
      (omega arith, omega arith))
      (λ off.
      let order : weighed v t arc.time ≤ weighed w t arc.time + total arc.time * 0 =
      sums.near v w 0 t arc.time is.time (λ u less. omega (arith, (h u less).0)) in
      let gap : weighed w t arc.time ≤ weighed v t arc.time + total arc.time * g =
      sums.near w v g t arc.time is.time (λ u less. (h u less).1) in
      let few : total arc.time * g ≤ net.scale * g = mul-le-mul_right g is.total in
      let below_w : weighed v t arc.time ≤ weighed w t arc.time = omega arith in
      let above_v : weighed w t arc.time ≤ weighed v t arc.time + net.scale * g = omega arith in
      rw (before-elsewhere floor_by net dest arc v t off, before-elsewhere ceiling_by net dest arc w t off) (
        rounding.order net.scale (weighed v t arc.time) (weighed w t arc.time) scale below_w,
        rounding.gap net.scale (weighed v t arc.time) (weighed w t arc.time) g scale above_v,
      ))
      (cases_eq arc.tail dest)

  value-near_by : (e : ℕ) (rest : List ℕ) (t : ℕ)
      → ((u : ℕ) → Near (length rest) (route_value floor_by net dest rest u) (route_value ceiling_by net dest rest u))
      → (found : Option Arc) → arc_at net e ≡ found
      → Near (length (e ∷ rest)) (route_value floor_by net dest (e ∷ rest) t) (route_value ceiling_by net dest (e ∷ rest) t)
  value-near_by e rest t after None is =
      rw (value-lost floor_by net dest e rest t is, value-lost ceiling_by net dest e rest t is)
      (omega arith, omega arith)
  value-near_by e rest t after (Some arc) is =
      let near = before-near (route_value floor_by net dest rest) (route_value ceiling_by net dest rest) (length rest) t arc (valid e arc is) (λ u less. after u) in
      rw (value-go floor_by net dest e rest arc t is, value-go ceiling_by net dest e rest arc t is)
      (omega (arith, near.0), omega (arith, near.1))

  -- the two values of a route are in order, and differ by at most a unit an arc
  pub value-near : (route : List ℕ) (t : ℕ)
      → Near (length route) (route_value floor_by net dest route t) (route_value ceiling_by net dest route t)
  value-near [] t =
      rw (value-end floor_by net dest t, value-end ceiling_by net dest t) (omega arith, omega arith)
  value-near (e ∷ rest) t =
      value-near_by e rest t (λ u. value-near rest u) (arc_at net e) refl

  -- the values before an arc, out of any row that has those after it
  pub value-back : (round : ℕ → ℕ → ℕ) (e : ℕ) (rest : List ℕ) (arc : Arc) (v : ℕ → ℕ) (t : ℕ)
      → arc_at net e ≡ Some arc → ((u : ℕ) → u < t → v u ≡ route_value round net dest rest u)
      → value_before round net dest arc v t ≡ route_value round net dest (e ∷ rest) t
  value-back round e rest arc v t is same =
      rw (value-go round net dest e rest arc t is)
      (⊎_elim
      (λ at. before-at_dest round net dest arc v t at ∙ sym (before-at_dest round net dest arc (route_value round net dest rest) t at))
      (λ off. before-elsewhere round net dest arc v t off
      ∙ ap (round net.scale) (sums.same v (route_value round net dest rest) t arc.time (valid e arc is).time same)
      ∙ sym (before-elsewhere round net dest arc (route_value round net dest rest) t off))
      (cases_eq arc.tail dest))
