-- No tree scores more than the upper value.
use Rattle.std.proofs.Common.{ℕ, ◌≡◌, ◌+◌, ◌-◌, ◌*◌, ◌^◌, ◌≤◌, List, [], ◌∷◌, Some, refl, arith, ⊎_elim}
use Rattle.std.proofs.lemmas.Bool.{eq-eqb, ne_eqb, cases_eq}
use Rattle.sota_units.specs.Rounding.{ONE, ceiling_by}
use Rattle.sota_hist.specs.Time.{within}
use Rattle.sota_network.specs.Network.{IsArc, arc_at}
use Rattle.sota_network.specs.Grid.{plain_sum, best_sum}
use Rattle.sota_network.specs.Trees.{Tree, Trees, stop, go, no_trees, tree_then}
use Rattle.sota_network.specs.declared.network.Arc.{Arc}
use Rattle.sota_period.specs.Laws.{NetworkLaws}
use Rattle.sota_period.specs.Periods.{TimedNet, IsTimedNet}
use Rattle.sota_period.specs.Grid.{thi}
use Rattle.sota_period.specs.Trees.{TimedFits, AllTimedFit, tscore, tscores}
use Rattle.sota_period.proofs.Best.{best-has}
use Rattle.sota_period.proofs.Grid.{value-at_dest, value-elsewhere}
use Rattle.sota_period.proofs.Pairs.{Inside, within-inside, weight, weight-cons}

pub score-at_dest : (net : TimedNet) (dest i t : ℕ) (tree : Tree) → i ≡ dest → tscore net dest i t tree ≡ net.scale ^ t
unfolding tscore
score-at_dest net dest i t stop h = rw (eq-eqb i dest h) refl
score-at_dest net dest i t (go e trees) h = rw (eq-eqb i dest h) refl

pub score-stop : (net : TimedNet) (dest i t : ℕ) → (i ≡ dest → ⊥) → tscore net dest i t stop ≡ 0
unfolding tscore
score-stop net dest i t h = rw (ne_eqb i dest h) refl

pub score-go : (net : TimedNet) (dest i t e : ℕ) (a : Arc) (trees : Trees) → (i ≡ dest → ⊥) → arc_at (net.at t) e ≡ Some a
    → tscore net dest i t (go e trees) ≡ tscores net dest a.head t (within t a.time) trees
unfolding tscore
score-go net dest i t e a trees h is = rw (ne_eqb i dest h, is) refl

pub scores-end : (net : TimedNet) (dest j t : ℕ) (trees : Trees) → tscores net dest j t [] trees ≡ 0
unfolding tscore
scores-end net dest j t no_trees = refl
scores-end net dest j t (tree_then child rest) = refl

pub scores-more : (net : TimedNet) (dest j t : ℕ) (p : ℕ × ℕ) (ps : List (ℕ × ℕ)) (child : Tree) (rest : Trees)
    → tscores net dest j t (p ∷ ps) (tree_then child rest)
    ≡ p.1 * net.scale ^ (p.0 - 1) * tscore net dest j (t - p.0) child + tscores net dest j t ps rest
unfolding tscore
scores-more net dest j t p ps child rest = refl

pub scale-positive : (net : TimedNet) (nodes : ℕ) → IsTimedNet net nodes → 1 ≤ net.scale
scale-positive net nodes is = omega (arith, is.scale 0, (is.valid 0).scale)

module _ (laws : NetworkLaws) (net : TimedNet) (nodes : ℕ) (is : IsTimedNet net nodes) (dest : ℕ) where
  mutual
    -- every tree scores at most the upper value
    pub upper : (tree : Tree) (i t : ℕ) → TimedFits net i t tree → ONE * tscore net dest i t tree ≤ thi net dest i t * net.scale ^ t
    upper stop i t fits =
        ⊎_elim
        (λ at. rw (score-at_dest net dest i t stop at, value-at_dest laws net nodes is ceiling_by dest i t at) (omega arith))
        (λ off. rw (score-stop net dest i t off) (omega arith))
        (cases_eq i dest)
    upper (go e trees) i t fits =
        ⊎_elim
        (λ at. rw (score-at_dest net dest i t (go e trees) at, value-at_dest laws net nodes is ceiling_by dest i t at) (omega arith))
        (λ off.
        let a : Arc = fits.0 in
        let v : IsArc (net.at t) a = laws.arc (net.at t) e a (is.valid t) fits.1 in
        let sum : ONE * tscores net dest a.head t (within t a.time) trees * net.scale ≤ weight (thi net dest a.head) t (within t a.time) * net.scale ^ t = uppers trees (within t a.time) a.head t fits.3 (within-inside t 0 a.time v.time) in
        let has : plain_sum a (thi net dest) t ≤ best_sum (net.at t) (thi net dest) i t = best-has laws (net.at t) (λ b. plain_sum b (thi net dest) t) i e a fits.1 fits.2 in
        rw (score-go net dest i t e a trees off fits.1, value-elsewhere laws net nodes is ceiling_by dest i t off)
        (laws.pairs.node_above ONE net.scale (tscores net dest a.head t (within t a.time) trees) (plain_sum a (thi net dest) t) (ceiling_by net.scale (best_sum (net.at t) (thi net dest) i t)) (net.scale ^ t) (scale-positive net nodes is) sum (omega (arith, has, laws.rounding.up net.scale (best_sum (net.at t) (thi net dest) i t) (scale-positive net nodes is)))))
        (cases_eq i dest)

    pub uppers : (trees : Trees) (ps : List (ℕ × ℕ)) (j t : ℕ) → AllTimedFit net j t ps trees → Inside t ps
        → ONE * tscores net dest j t ps trees * net.scale ≤ weight (thi net dest j) t ps * net.scale ^ t
    uppers no_trees [] j t fits r = rw scores-end (omega arith)
    uppers no_trees (p ∷ ps) j t fits r = absurd fits
    uppers (tree_then child rest) [] j t fits r = absurd fits
    uppers (tree_then child rest) (p ∷ ps) j t fits r =
        let more : ONE * tscores net dest j t ps rest * net.scale ≤ weight (thi net dest j) t ps * net.scale ^ t = uppers rest ps j t fits.1 r.2 in
        let here : ONE * tscore net dest j (t - p.0) child ≤ thi net dest j (t - p.0) * net.scale ^ (t - p.0) = upper child j (t - p.0) fits.0 in
        let parts : net.scale ^ t ≡ net.scale ^ (p.0 - 1) * net.scale * net.scale ^ (t - p.0) = laws.pairs.parts net.scale p.0 t r.0 r.1 in
        rw (scores-more net dest j t p ps child rest, weight-cons (thi net dest j) t p ps)
        (laws.pairs.above ONE p.1 net.scale _ _ _ _ _ _ _ parts here more)
