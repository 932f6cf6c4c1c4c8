-- What the tree of a route scores.
use Rattle.std.proofs.Common.{ℕ, zero, suc, ◌≡◌, ◌+◌, ◌-◌, ◌*◌, ◌^◌, ◌<◌, ◌≤◌, List, [], ◌∷◌, Some, refl, sym, ◌∙◌, ap, arith, ⊎_elim, subst}
use Rattle.std.proofs.lemmas.Bool.{cases_eq, cases_lt}
use Rattle.std.proofs.lemmas.Nat.{pow-add}
use Rattle.std.proofs.Math.Nat.{le_of_mul-le-mul_right, mul-le-mul_left, mul-le-mul_right, pow-suc}
use Rattle.sota_units.specs.Rounding.{ONE, floor_by, ceiling_by}
use Rattle.sota_hist.specs.Time.{RisesFrom, total}
use Rattle.sota_network.specs.Network.{Net, IsArc, arc_at}
use Rattle.sota_network.specs.Grid.{weighed}
use Rattle.sota_network.specs.Trees.{Tree, stop, go, Fits, AllFit, score, scores}
use Rattle.sota_network.specs.declared.network.Arc.{Arc}
use Rattle.sota_network.specs.Laws.{SumLaws, RoundLaws, ScoreLaws}
use Rattle.sota_route.specs.Routes.{copies, along, EnclosesRoute}
use Rattle.sota_route.specs.Bounds.{value_before, route_value}
use Rattle.sota_route.proofs.Values.{before-at_dest, before-elsewhere, value-end, value-go}

along-end : (net : Net) → along net [] ≡ stop
unfolding along
along-end net = refl

along-go : (net : Net) (e : ℕ) (rest : List ℕ) (arc : Arc) → arc_at net e ≡ Some arc
    → along net (e ∷ rest) ≡ go e (copies arc.time (along net rest))
unfolding along
along-go net e rest arc is = rw (is, along) refl

-- a factor of all values is one of their sum
weighed-times : SumLaws → (v : ℕ → ℕ) (k t : ℕ) (ps : List (ℕ × ℕ))
    → weighed (λ u. v u * k) t ps ≡ weighed v t ps * k
weighed-times sums v k t [] = omega arith
weighed-times sums v k t (p ∷ ps) =
    let rest : weighed (λ u. v u * k) t ps ≡ weighed v t ps * k = weighed-times sums v k t ps in
    ⊎_elim
    (λ (out : t < p.0). rw (sums.outside (λ u. v u * k) t p ps out, sums.outside v t p ps out) rest)
    (λ (inside : p.0 ≤ t).
    rw (sums.inside (λ u. v u * k) t p ps inside, sums.inside v t p ps inside) (omega arith))
    (cases_lt t p.0)

-- the score after an arc, as a sum of what is scored with the budget that is left
module _ (sums : SumLaws) (scores-of : ScoreLaws) (net : Net) (dest j t : ℕ) (tree : Tree) where
  abbrev pub scored : ℕ → ℕ
  scored u = net.scale ^ (t - u) * score net dest j u tree

  -- the factor of a pair, with one more factor
  power-back : (s : ℕ) → 1 ≤ s → s ≤ t → net.scale ^ (t - (t - s)) ≡ net.scale ^ (s - 1) * net.scale
  power-back zero h k = absurd (omega arith)
  power-back (suc a) h k =
      let back : t - (t - suc a) ≡ suc a = omega arith in
      let less : suc a - 1 ≡ a = omega arith in
      ap (λ (n : ℕ). net.scale ^ n) back ∙ pow-suc net.scale a
      ∙ ap (λ (n : ℕ). net.scale ^ n * net.scale) (sym less)

  pub scores-are : (floor : ℕ) (ps : List (ℕ × ℕ)) → RisesFrom floor ps
      → scores net dest j t ps (copies ps tree) * net.scale ≡ weighed scored t ps
  scores-are floor [] r = rw (scores-of.none net dest j t (copies [] tree)) (omega arith)
  scores-are floor (p ∷ ps) r =
      let rest : scores net dest j t ps (copies ps tree) * net.scale ≡ weighed scored t ps = scores-are p.0 ps r.2 in
      ⊎_elim
      (λ (out : t < p.0). rw (scores-of.outside net dest j t p ps tree (copies ps tree) out, sums.outside scored t p ps out) rest)
      (λ (inside : p.0 ≤ t).
      let some : 1 ≤ p.0 = omega (arith, r.0) in
      let back : net.scale ^ (t - (t - p.0)) ≡ net.scale ^ (p.0 - 1) * net.scale = power-back p.0 some inside in
      rw (scores-of.inside net dest j t p ps tree (copies ps tree) inside, sums.inside scored t p ps inside, back) (omega arith))
      (cases_lt t p.0)

-- a route that can be taken from node o and leads to the destination
abbrev pub Leads : Net → ℕ → ℕ → List ℕ → Type 0
Leads net dest o [] = o ≡ dest
Leads net dest o (e ∷ rest) =
    (arc : Arc) × (arc_at net e ≡ Some arc) × (arc.tail ≡ o) × Leads net dest arc.head rest

copies-fit : (net : Net) (j : ℕ) (tree : Tree) → Fits net j tree → (ps : List (ℕ × ℕ))
    → AllFit net j ps (copies ps tree)
copies-fit net j tree fits [] = tt
copies-fit net j tree fits (p ∷ ps) = (fits, copies-fit net j tree fits ps)

-- its tree can be followed from there
pub along-fits : (net : Net) (dest o : ℕ) (route : List ℕ) → Leads net dest o route
    → Fits net o (along net route)
along-fits net dest o [] leads = subst (λ (tree : Tree). Fits net o tree) (sym (along-end net)) tt
along-fits net dest o (e ∷ rest) leads =
    let arc : Arc = leads.0 in
    subst (λ (tree : Tree). Fits net o tree) (sym (along-go net e rest arc leads.1))
    (arc, leads.1, leads.2, copies-fit net arc.head (along net rest) (along-fits net dest arc.head rest leads.3) arc.time)

-- the floor of what a factor makes of a sum
down-step : (q l w s T : ℕ) → 1 ≤ q → l * q ≤ w → w * T ≤ s * q * ONE → l * T ≤ ONE * s
down-step q l w s T h floor sum =
    let here : (l * q) * T ≤ w * T = mul-le-mul_right T floor in
    le_of_mul-le-mul_right (let z : l * T * q ≤ ONE * s * q = omega arith in z) (omega (arith, h))

up-step : (q l w s T : ℕ) → 1 ≤ q → w ≤ l * q → s * q * ONE ≤ w * T → ONE * s ≤ l * T
up-step q l w s T h ceiling sum =
    let here : w * T ≤ (l * q) * T = mul-le-mul_right T ceiling in
    le_of_mul-le-mul_right (let z : ONE * s * q ≤ l * T * q = omega arith in z) (omega (arith, h))

module _ (sums : SumLaws) (rounding : RoundLaws) (scores-of : ScoreLaws) (net : Net) (scale : 1 ≤ net.scale) (dest : ℕ)
    (valid : (e : ℕ) (arc : Arc) → arc_at net e ≡ Some arc → IsArc net arc) where
  module _ (v w : ℕ → ℕ) (o t e : ℕ) (rest : List ℕ) (arc : Arc)
      (off : o ≡ dest → ⊥) (is : arc_at net e ≡ Some arc) (tail : arc.tail ≡ o)
      (low : (u : ℕ) → v u * net.scale ^ u ≤ ONE * score net dest arc.head u (along net rest))
      (high : (u : ℕ) → ONE * score net dest arc.head u (along net rest) ≤ w u * net.scale ^ u) where
    abbrev after : ℕ → ℕ
    after = scored sums scores-of net dest arc.head t (along net rest)

    power : (u : ℕ) → u < t → net.scale ^ t ≡ net.scale ^ (t - u) * net.scale ^ u
    power u less =
        let parts : t ≡ (t - u) + u = omega arith in
        ap (λ (n : ℕ). net.scale ^ n) parts ∙ pow-add net.scale (t - u) u

    low-each : (u : ℕ) → u < t → v u * net.scale ^ t ≤ after u * ONE + 0
    low-each u less =
        let more : net.scale ^ (t - u) * (v u * net.scale ^ u) ≤ net.scale ^ (t - u) * (ONE * score net dest arc.head u (along net rest)) =
        mul-le-mul_left (net.scale ^ (t - u)) (low u) in
        rw (power u less) (omega arith)

    high-each : (u : ℕ) → u < t → after u * ONE ≤ w u * net.scale ^ t + 0
    high-each u less =
        let more : net.scale ^ (t - u) * (ONE * score net dest arc.head u (along net rest)) ≤ net.scale ^ (t - u) * (w u * net.scale ^ u) =
        mul-le-mul_left (net.scale ^ (t - u)) (high u) in
        rw (power u less) (omega arith)

    low-sum : weighed v t arc.time * net.scale ^ t ≤ weighed after t arc.time * ONE
    low-sum =
        let sum : weighed (λ u. v u * net.scale ^ t) t arc.time ≤ weighed (λ u. after u * ONE) t arc.time + total arc.time * 0 =
        sums.near (λ u. v u * net.scale ^ t) (λ u. after u * ONE) 0 t arc.time (valid e arc is).time low-each in
        omega (arith, weighed-times sums v (net.scale ^ t) t arc.time, weighed-times sums after ONE t arc.time)

    high-sum : weighed after t arc.time * ONE ≤ weighed w t arc.time * net.scale ^ t
    high-sum =
        let sum : weighed (λ u. after u * ONE) t arc.time ≤ weighed (λ u. w u * net.scale ^ t) t arc.time + total arc.time * 0 =
        sums.near (λ u. after u * ONE) (λ u. w u * net.scale ^ t) 0 t arc.time (valid e arc is).time high-each in
        omega (arith, weighed-times sums w (net.scale ^ t) t arc.time, weighed-times sums after ONE t arc.time)

    abbrev reached : ℕ
    reached = scores net dest arc.head t arc.time (copies arc.time (along net rest))

    reached-is : reached * net.scale ≡ weighed after t arc.time
    reached-is = scores-are sums scores-of net dest arc.head t (along net rest) 0 arc.time (valid e arc is).time

    score-is : score net dest o t (along net (e ∷ rest)) ≡ reached
    score-is =
        ap (λ (tree : Tree). score net dest o t tree) (along-go net e rest arc is)
        ∙ scores-of.taken net dest o t e arc (copies arc.time (along net rest)) off is

    off-tail : arc.tail ≡ dest → ⊥
    off-tail at = off (sym tail ∙ at)

    off-low : value_before floor_by net dest arc v t * net.scale ^ t ≤ ONE * score net dest o t (along net (e ∷ rest))
    off-low =
        rw (before-elsewhere floor_by net dest arc v t off-tail, score-is)
        (down-step net.scale (floor_by net.scale (weighed v t arc.time)) (weighed v t arc.time) reached (net.scale ^ t) scale
        (rounding.down net.scale (weighed v t arc.time)) (rw reached-is low-sum))

    off-high : ONE * score net dest o t (along net (e ∷ rest)) ≤ value_before ceiling_by net dest arc w t * net.scale ^ t
    off-high =
        rw (before-elsewhere ceiling_by net dest arc w t off-tail, score-is)
        (up-step net.scale (ceiling_by net.scale (weighed w t arc.time)) (weighed w t arc.time) reached (net.scale ^ t) scale
        (rounding.up net.scale (weighed w t arc.time) scale) (rw reached-is high-sum))

  -- the two values of a route enclose what its tree scores
  pub along-enclosed : (route : List ℕ) (o t : ℕ) → Leads net dest o route
      → EnclosesRoute net dest route o t (route_value floor_by net dest route t) (route_value ceiling_by net dest route t)
  along-enclosed [] o t leads =
      rw (value-end floor_by net dest t, value-end ceiling_by net dest t, scores-of.arrived net dest o t (along net []) leads)
      (omega arith, omega arith)
  along-enclosed (e ∷ rest) o t leads =
      let arc : Arc = leads.0 in
      rw (value-go floor_by net dest e rest arc t leads.1, value-go ceiling_by net dest e rest arc t leads.1)
      (⊎_elim
      (λ (at : o ≡ dest).
      let tail : arc.tail ≡ dest = leads.2 ∙ at in
      rw (
        before-at_dest floor_by net dest arc (route_value floor_by net dest rest) t tail,
        before-at_dest ceiling_by net dest arc (route_value ceiling_by net dest rest) t tail,
        scores-of.arrived net dest o t (along net (e ∷ rest)) at,
      )
      (omega arith, omega arith))
      (λ (off : o ≡ dest → ⊥). (
        off-low (route_value floor_by net dest rest) (route_value ceiling_by net dest rest) o t e rest arc off leads.1 leads.2
            (λ u. (along-enclosed rest arc.head u leads.3).0) (λ u. (along-enclosed rest arc.head u leads.3).1),
        off-high (route_value floor_by net dest rest) (route_value ceiling_by net dest rest) o t e rest arc off leads.1 leads.2
            (λ u. (along-enclosed rest arc.head u leads.3).0) (λ u. (along-enclosed rest arc.head u leads.3).1),
      ))
      (cases_eq o dest))
