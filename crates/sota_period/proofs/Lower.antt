-- Some tree scores the lower value.
use Rattle.std.proofs.Common.{ℕ, zero, suc, ◌≡◌, ◌-◌, ◌*◌, ◌^◌, ◌<◌, ◌≤◌, List, [], ◌∷◌, arith, ⊎_elim}
use Rattle.std.proofs.lemmas.Bool.{cases_eq, cases_lt}
use Rattle.sota_units.specs.Rounding.{ONE, floor_by}
use Rattle.sota_hist.specs.Time.{within}
use Rattle.sota_network.specs.Network.{IsArc}
use Rattle.sota_network.specs.Grid.{plain_sum, best_sum}
use Rattle.sota_network.specs.Trees.{Tree, Trees, stop, go, no_trees, tree_then}
use Rattle.sota_network.specs.declared.network.Arc.{Arc}
use Rattle.sota_period.specs.Laws.{NetworkLaws}
use Rattle.sota_period.specs.Periods.{TimedNet, IsTimedNet}
use Rattle.sota_period.specs.Grid.{tlo}
use Rattle.sota_period.specs.Trees.{TimedFits, AllTimedFit, tscore, tscores}
use Rattle.sota_period.proofs.Best.{best-found}
use Rattle.sota_period.proofs.Grid.{value-at_dest, value-elsewhere}
use Rattle.sota_period.proofs.Pairs.{Inside, within-inside, weight, weight-cons}
use Rattle.sota_period.proofs.Upper.{score-at_dest, score-go, scores-end, scores-more, scale-positive}

module _ (laws : NetworkLaws) (net : TimedNet) (nodes : ℕ) (is : IsTimedNet net nodes) (dest : ℕ) where
  -- a tree that can be followed from node i and scores its lower value
  abbrev Attains : ℕ → ℕ → Tree → Type 0
  Attains i t tree = TimedFits net i t tree × (tlo net dest i t * net.scale ^ t ≤ ONE * tscore net dest i t tree)

  -- one child for each pair
  children : (j t : ℕ) → ((u : ℕ) → u < t → (tree : Tree) × Attains j u tree) → (ps : List (ℕ × ℕ)) → Inside t ps
      → (trees : Trees) × AllTimedFit net j t ps trees × (weight (tlo net dest j) t ps * net.scale ^ t ≤ ONE * tscores net dest j t ps trees * net.scale)
  children j t attain [] r = (no_trees, tt, rw scores-end (omega arith))
  children j t attain (p ∷ ps) r =
      let more = children j t attain ps r.2 in
      let less : t - p.0 < t = omega (arith, r.0, r.1) in
      let child = attain (t - p.0) less in
      let parts : net.scale ^ t ≡ net.scale ^ (p.0 - 1) * net.scale * net.scale ^ (t - p.0) = laws.pairs.parts net.scale p.0 t r.0 r.1 in (
        tree_then child.0 more.0,
        (child.1.0, more.1),
        rw (scores-more net dest j t p ps child.0 more.0, weight-cons (tlo net dest j) t p ps)
            (laws.pairs.below ONE p.1 net.scale _ _ _ _ _ _ _ parts child.1.1 more.2),
      )

  -- a positive quotient is of a positive number
  positive-sum : (x : ℕ) → 0 < floor_by net.scale x → 0 < x
  positive-sum x more =
      ⊎_elim
      (λ (some : 0 < x). some)
      (λ (none : x ≤ 0).
      let nothing : floor_by net.scale x ≤ 0 = (laws.rounding.whole net.scale x 0 (scale-positive net nodes is) (omega (arith, none))).0 in
      absurd (omega (arith, nothing, more)))
      (cases_lt 0 x)

  lower-go : (i t : ℕ) → (i ≡ dest → ⊥) → 0 < tlo net dest i t → ((j u : ℕ) → u < t → (tree : Tree) × Attains j u tree) → (tree : Tree) × Attains i t tree
  lower-go i t off positive below =
      let value : tlo net dest i t ≡ floor_by net.scale (best_sum (net.at t) (tlo net dest) i t) = value-elsewhere laws net nodes is floor_by dest i t off in
      let some : 0 < best_sum (net.at t) (tlo net dest) i t = positive-sum (best_sum (net.at t) (tlo net dest) i t) (rw value at positive) in
      let found = best-found laws (net.at t) (λ b. plain_sum b (tlo net dest) t) i some in
      let e : ℕ = found.0 in
      let first = found.2 in
      let a : Arc = first.arc in
      let v : IsArc (net.at t) a = laws.arc (net.at t) e a (is.valid t) first.number in
      let all = children a.head t (λ u less. below a.head u less) (within t a.time) (within-inside t 0 a.time v.time) in
      let floor : tlo net dest i t * net.scale ≤ plain_sum a (tlo net dest) t = rw (value, first.greatest) (laws.rounding.down net.scale (best_sum (net.at t) (tlo net dest) i t)) in (
        go e all.0,
        (
          (a, first.number, first.tail, all.1),
          rw (score-go net dest i t e a all.0 off first.number)
              (laws.pairs.node_below ONE net.scale _ (plain_sum a (tlo net dest) t) _ (net.scale ^ t) (scale-positive net nodes is) all.2 floor),
        ),
      )

  lower-below : (k i t : ℕ) → t < k → (tree : Tree) × Attains i t tree
  lower-below zero i t h = absurd (omega arith)
  lower-below (suc k) i t h =
      ⊎_elim
      (λ (at : i ≡ dest). (stop, (tt, rw (score-at_dest net dest i t stop at, value-at_dest laws net nodes is floor_by dest i t at) (omega arith))))
      (λ (off : i ≡ dest → ⊥).
      ⊎_elim
      (λ (positive : 0 < tlo net dest i t). lower-go i t off positive (λ j u less. lower-below k j u (omega arith)))
      (λ (none : tlo net dest i t ≤ 0).
      let nothing : tlo net dest i t ≡ 0 = omega arith in
      (stop, (tt, rw nothing (omega arith))))
      (cases_lt 0 (tlo net dest i t)))
      (cases_eq i dest)

  pub lower : (i t : ℕ) → (tree : Tree) × Attains i t tree
  lower i t = lower-below (suc t) i t (omega arith)
