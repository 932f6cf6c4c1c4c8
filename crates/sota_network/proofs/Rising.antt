-- More time makes no value of the grid less: what was in time stays so, and each sum reads smaller
-- budgets, since each tick is at least 1.
use Rattle.std.proofs.Common.{ℕ, zero, suc, ◌≡◌, ◌+◌, ◌-◌, ◌*◌, ◌/◌, ◌<◌, ◌≤◌, List, [], ◌∷◌, get_or, refl, ◌∙◌, arith, ⊎_elim}
use Rattle.std.proofs.lemmas.Bool.{cases_lt, cases_eq, eq-eqb, ne_eqb}
use Rattle.std.proofs.lemmas.Nat.{le-div, div-add-mod'}
use Rattle.std.proofs.Math.Nat.{mul-le-mul_left}
use Rattle.sota_units.specs.Rounding.{ONE, floor_by, ceiling_by}
use Rattle.sota_hist.specs.Time.{RisesFrom}
use Rattle.sota_network.specs.Network.{Net, IsNet}
use Rattle.sota_network.specs.Grid.{weighed, plain_sum, best_sum, value_from}
use Rattle.sota_network.specs.declared.network.Arc.{Arc}
use Rattle.sota_network.proofs.Sums.{weighed-in, weighed-out}
use Rattle.sota_network.proofs.Best.{best-le}

-- a greater number has no less a quotient
div-le : (k x y : ℕ) → 1 ≤ k → x ≤ y → x / k ≤ y / k
div-le k x y some less = le-div (x / k) y k some (omega (arith, div-add-mod' x k, less))

pub floor-rises : (q : ℕ) → 1 ≤ q → (x y : ℕ) → x ≤ y → floor_by q x ≤ floor_by q y
floor-rises q some x y less = div-le q x y some less

pub ceiling-rises : (q : ℕ) → 1 ≤ q → (x y : ℕ) → x ≤ y → ceiling_by q x ≤ ceiling_by q y
ceiling-rises q some x y less = div-le q (x + (q - 1)) (y + (q - 1)) some (omega arith)

pub weighed-rises : (v : ℕ → ℕ) (t u floor : ℕ) → ((a b : ℕ) → a < t → a ≤ b → v a ≤ v b) → t ≤ u → (ps : List (ℕ × ℕ)) → RisesFrom floor ps → weighed v t ps ≤ weighed v u ps
weighed-rises v t u floor h later [] r = omega arith
weighed-rises v t u floor h later (p ∷ ps) r =
    let rest : weighed v t ps ≤ weighed v u ps = weighed-rises v t u p.0 h later ps r.2 in
    ⊎_elim
    (λ (out : t < p.0).
    ⊎_elim
    (λ (far : u < p.0). rw (weighed-out v t p ps out, weighed-out v u p ps far) rest)
    (λ (near : p.0 ≤ u). rw (weighed-out v t p ps out, weighed-in v u p ps near) (omega (arith, rest)))
    (cases_lt u p.0))
    (λ (inside : p.0 ≤ t).
    let near : p.0 ≤ u = omega arith in
    let one : p.1 * v (t - p.0) ≤ p.1 * v (u - p.0) = mul-le-mul_left p.1 (h (t - p.0) (u - p.0) (omega arith) (omega arith)) in
    rw (weighed-in v t p ps inside, weighed-in v u p ps near) (omega (arith, rest, one)))
    (cases_lt t p.0)

-- what rounds no greater sum to less, and satisfies the recursion of the grid
module _ (net : Net) (valid : IsNet net) (dest : ℕ) (round : ℕ → ℕ → ℕ) (f : ℕ → ℕ → ℕ) (rounds : (x y : ℕ) → x ≤ y → round net.scale x ≤ round net.scale y) (recurs : (i t : ℕ) → f i t ≡ value_from round net dest f i t) where
  value-rises : (i t u : ℕ) → best_sum net f i t ≤ best_sum net f i u → f i t ≤ f i u
  value-rises i t u less =
      ⊎_elim
      (λ (at : i ≡ dest).
      let one : (v : ℕ) → f i v ≡ ONE = λ v. recurs i v ∙ (rw (eq-eqb i dest at) refl) in
      omega (arith, one t, one u))
      (λ (off : i ≡ dest → ⊥).
      let is : (v : ℕ) → f i v ≡ round net.scale (best_sum net f i v) = λ v. recurs i v ∙ (rw (ne_eqb i dest off) refl) in
      omega (arith, is t, is u, rounds (best_sum net f i t) (best_sum net f i u) less))
      (cases_eq i dest)

  best-rises : (i t u : ℕ) → ((j a b : ℕ) → a < t → a ≤ b → f j a ≤ f j b) → t ≤ u → best_sum net f i t ≤ best_sum net f i u
  best-rises i t u below later =
      let most : best_sum net f i t ≤ best_sum net f i u + 0 =
      best-le (λ (a : Arc). plain_sum a f t) (λ (a : Arc). plain_sum a f u) 0 i net.arcs
      (λ n d inside tail.
      let arc : Arc = get_or net.arcs n d in
      let more : plain_sum arc f t ≤ plain_sum arc f u = weighed-rises (f arc.head) t u 0 (λ a b low up. below arc.head a b low up) later arc.time (valid.arcs n d inside).time in
      omega arith) in
      omega arith

  rises-below : (k i t u : ℕ) → t < k → t ≤ u → f i t ≤ f i u
  rises-below zero i t u h later = absurd (omega arith)
  rises-below (suc k) i t u h later =
      value-rises i t u (best-rises i t u (λ j a b low up. rises-below k j a b (omega arith) up) later)

  pub rises : (i t u : ℕ) → t ≤ u → f i t ≤ f i u
  rises i t u later = rises-below (suc t) i t u (omega arith) later
