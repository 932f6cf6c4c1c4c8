-- With more ticks a decision tree has no less a probability.
use Rattle.std.proofs.Common.{ℕ, zero, suc, ◌≡◌, ◌+◌, ◌-◌, ◌*◌, ◌^◌, ◌<◌, ◌≤◌, List, [], ◌∷◌, subst, arith, ⊎_elim}
use Rattle.std.proofs.lemmas.Bool.{cases_lt, cases_eq}
use Rattle.std.proofs.lemmas.Grind.{pow_more}
use Rattle.std.proofs.Math.Nat.{mul-le-mul_left, mul-le-mul_right}
use Rattle.sota_units.specs.Rounding.{ONE}
use Rattle.sota_network.specs.Network.{Net}
use Rattle.sota_network.specs.Trees.{Tree, Trees, stop, go, no_trees, tree_then, Fits, AllFit, score, scores}
use Rattle.sota_network.specs.Laws.{ScoreLaws}
use Rattle.sota_quantile.specs.Needs.{ReachesWith}

-- ---- one tick more
one-pair : (m q s later r after Q : ℕ) → s * Q ≤ later → r * Q ≤ after → (m * q * s + r) * Q ≤ m * q * later + after
one-pair m q s later r after Q here rest =
    let most : m * q * (s * Q) ≤ m * q * later = mul-le-mul_left (m * q) here in
    omega (arith, most, rest)

module _ (laws : ScoreLaws) (net : Net) (dest : ℕ) where
  mutual
    score-rises : (tree : Tree) (i t : ℕ) → Fits net i tree → score net dest i t tree * net.scale ≤ score net dest i (t + 1) tree
    score-rises stop i t fits =
        ⊎_elim
        (λ at. rw (laws.arrived net dest i t stop at, laws.arrived net dest i (t + 1) stop at) (omega (arith, pow_more net.scale t)))
        (λ off. rw (laws.stopped net dest i t off) (omega arith))
        (cases_eq i dest)
    score-rises (go e trees) i t fits =
        ⊎_elim
        (λ at. rw (laws.arrived net dest i t (go e trees) at, laws.arrived net dest i (t + 1) (go e trees) at) (omega (arith, pow_more net.scale t)))
        (λ off. rw (laws.taken net dest i t e fits.0 trees off fits.1, laws.taken net dest i (t + 1) e fits.0 trees off fits.1) (scores-rise trees fits.0.time fits.0.head t fits.3))
        (cases_eq i dest)

    scores-rise : (trees : Trees) (ps : List (ℕ × ℕ)) (j t : ℕ) → AllFit net j ps trees → scores net dest j t ps trees * net.scale ≤ scores net dest j (t + 1) ps trees
    scores-rise no_trees [] j t fits = rw (laws.none net dest j t no_trees) (omega arith)
    scores-rise no_trees (p ∷ ps) j t fits = absurd fits
    scores-rise (tree_then child rest) [] j t fits = absurd fits
    scores-rise (tree_then child rest) (p ∷ ps) j t fits =
        let more : scores net dest j t ps rest * net.scale ≤ scores net dest j (t + 1) ps rest = scores-rise rest ps j t fits.1 in
        ⊎_elim
        (λ (out : t < p.0).
        ⊎_elim
        (λ (far : t + 1 < p.0). rw (laws.outside net dest j t p ps child rest out, laws.outside net dest j (t + 1) p ps child rest far) more)
        (λ (near : p.0 ≤ t + 1). rw (laws.outside net dest j t p ps child rest out, laws.inside net dest j (t + 1) p ps child rest near) (omega (arith, more)))
        (cases_lt (t + 1) p.0))
        (λ (inside : p.0 ≤ t).
        let near : p.0 ≤ t + 1 = omega arith in
        let left : t - p.0 + 1 ≡ t + 1 - p.0 = omega arith in
        let here : score net dest j (t - p.0) child * net.scale ≤ score net dest j (t + 1 - p.0) child =
        subst (λ (u : ℕ). score net dest j (t - p.0) child * net.scale ≤ score net dest j u child) left (score-rises child j (t - p.0) fits.0) in
        rw (laws.inside net dest j t p ps child rest inside, laws.inside net dest j (t + 1) p ps child rest near)
        (one-pair p.1 (net.scale ^ (p.0 - 1)) (score net dest j (t - p.0) child) (score net dest j (t + 1 - p.0) child) (scores net dest j t ps rest) (scores net dest j (t + 1) ps rest) net.scale here more))
        (cases_lt t p.0)

-- ---- and as many as one likes
further : (c P more Q w s later : ℕ) → more ≡ P * Q → c * P ≤ w * s → s * Q ≤ later → c * more ≤ w * later
further c P more Q w s later is has rises =
    let scaled : c * P * Q ≤ w * s * Q = mul-le-mul_right Q has in
    let most : w * (s * Q) ≤ w * later = mul-le-mul_left w rises in
    rw is (omega (arith, scaled, most))

reached-on : ScoreLaws → (net : Net) (dest i c t d : ℕ) → ReachesWith net dest i c t → ReachesWith net dest i c (t + d)
reached-on laws net dest i c t zero reached = subst (ReachesWith net dest i c) (let z : t ≡ t + 0 = omega arith in z) reached
reached-on laws net dest i c t (suc d) reached =
    let before : ReachesWith net dest i c (t + d) = reached-on laws net dest i c t d reached in
    let last : t + d + 1 ≡ t + suc d = omega arith in
    subst (ReachesWith net dest i c) last (
      before.0,
      before.1,
      further c (net.scale ^ (t + d)) (net.scale ^ (t + d + 1)) net.scale ONE (score net dest i (t + d) before.0) (score net dest i (t + d + 1) before.0)
          (pow_more net.scale (t + d)) before.2 (score-rises laws net dest before.0 i (t + d) before.1),
    )

pub reached-later : ScoreLaws → (net : Net) (dest i c t u : ℕ) → t ≤ u → ReachesWith net dest i c t → ReachesWith net dest i c u
reached-later laws net dest i c t u later reached =
    subst (ReachesWith net dest i c) (let z : t + (u - t) ≡ u = omega arith in z) (reached-on laws net dest i c t (u - t) reached)
