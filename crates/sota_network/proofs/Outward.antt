-- No tree scores more than the upper value.
use Rattle.std.proofs.Common.{ℕ, ◌≡◌, ◌+◌, ◌-◌, ◌*◌, ◌^◌, ◌/◌, ◌%◌, zero-add, ◌<◌, ◌≤◌, List, [], ◌∷◌, Some, refl, ◌∙◌, arith, ⊎_elim}
use Rattle.std.proofs.lemmas.Bool.{eq-eqb, ne_eqb, cases_eq, cases_lt, le-leb, lt-leb}
use Rattle.std.proofs.Math.Nat.{mul-le-mul_right, div-add-mod, mod-lt}
use Rattle.sota_hist.specs.Time.{RisesFrom}
use Rattle.sota_network.specs.Network.{Net, IsNet, IsArc, arc_at}
use Rattle.sota_network.specs.Grid.{weighed, plain_sum, best_sum, lo, hi}
use Rattle.sota_network.specs.Trees.{Tree, Trees, stop, go, no_trees, tree_then, children, Fits, AllFit, score, scores}
use Rattle.sota_network.specs.Sound.{Covers}
use Rattle.sota_network.specs.declared.network.Arc.{Arc}
use Rattle.sota_units.specs.Rounding.{ONE, floor_by, ceiling_by}
use Rattle.sota_network.proofs.Pairs.{power-parts, step-up, close-up}
use Rattle.sota_network.proofs.Sums.{weighed-in, weighed-out}
use Rattle.sota_network.proofs.Best.{best-has_number}
use Rattle.sota_network.proofs.Recursion.{arc-valid, lo-is, hi-is}

-- the ceiling is outward
pub ceiling-up : (q x : ℕ) → 1 ≤ q → x ≤ ceiling_by q x * q
ceiling-up q x h =
    let whole : q * ((x + (q - 1)) / q) + (x + (q - 1)) % q ≡ x + (q - 1) = div-add-mod (x + (q - 1)) q in
    let rest : (x + (q - 1)) % q < q = mod-lt (x + (q - 1)) (let y : 0 < q = omega arith in y) in
    omega arith

pub score-at_dest : (net : Net) (dest i t : ℕ) (tree : Tree) → i ≡ dest → score net dest i t tree ≡ net.scale ^ t
unfolding score
score-at_dest net dest i t stop h = rw (eq-eqb i dest h) refl
score-at_dest net dest i t (go e children) h = rw (eq-eqb i dest h) refl

pub score-stop : (net : Net) (dest i t : ℕ) → (i ≡ dest → ⊥) → score net dest i t stop ≡ 0
unfolding score
score-stop net dest i t h = rw (ne_eqb i dest h) refl

pub score-go : (net : Net) (dest i t e : ℕ) (a : Arc) (trees : Trees) → (i ≡ dest → ⊥) → arc_at net e ≡ Some a → score net dest i t (go e trees) ≡ scores net dest a.head t a.time trees
unfolding score
score-go net dest i t e a trees h is = rw (ne_eqb i dest h, is) refl

pub scores-in : (net : Net) (dest j t : ℕ) (p : ℕ × ℕ) (ps : List (ℕ × ℕ)) (child : Tree) (rest : Trees) → p.0 ≤ t
    → scores net dest j t (p ∷ ps) (tree_then child rest) ≡ p.1 * net.scale ^ (p.0 - 1) * score net dest j (t - p.0) child + scores net dest j t ps rest
unfolding score
scores-in net dest j t p ps child rest h = rw (le-leb p.0 t h) refl

pub scores-out : (net : Net) (dest j t : ℕ) (p : ℕ × ℕ) (ps : List (ℕ × ℕ)) (child : Tree) (rest : Trees) → t < p.0
    → scores net dest j t (p ∷ ps) (tree_then child rest) ≡ scores net dest j t ps rest
unfolding score
scores-out net dest j t p ps child rest h = rw (lt-leb p.0 t h) (zero-add _)

pub hi-at_dest : (net : Net) → IsNet net → (dest i t : ℕ) → i ≡ dest → hi net dest i t ≡ ONE
hi-at_dest net valid dest i t h = hi-is net dest valid i t ∙ (rw (eq-eqb i dest h) refl)

pub hi-elsewhere : (net : Net) → IsNet net → (dest i t : ℕ) → (i ≡ dest → ⊥) → hi net dest i t ≡ ceiling_by net.scale (best_sum net (hi net dest) i t)
hi-elsewhere net valid dest i t h = hi-is net dest valid i t ∙ (rw (ne_eqb i dest h) refl)

pub lo-at_dest : (net : Net) → IsNet net → (dest i t : ℕ) → i ≡ dest → lo net dest i t ≡ ONE
lo-at_dest net valid dest i t h = lo-is net dest valid i t ∙ (rw (eq-eqb i dest h) refl)

pub lo-elsewhere : (net : Net) → IsNet net → (dest i t : ℕ) → (i ≡ dest → ⊥) → lo net dest i t ≡ floor_by net.scale (best_sum net (lo net dest) i t)
lo-elsewhere net valid dest i t h = lo-is net dest valid i t ∙ (rw (ne_eqb i dest h) refl)

pub scores-end : (net : Net) (dest j t : ℕ) (trees : Trees) → scores net dest j t [] trees ≡ 0
unfolding score
scores-end net dest j t no_trees = refl
scores-end net dest j t (tree_then child rest) = refl

module _ (net : Net) (valid : IsNet net) (dest : ℕ) (v : ℕ → ℕ → ℕ) (covers : Covers net dest v) where
  -- who has arrived has one whole
  arrived : (i t : ℕ) (tree : Tree) → i ≡ dest → ONE * score net dest i t tree ≤ v i t * net.scale ^ t
  arrived i t tree at =
      let whole : ONE * net.scale ^ t ≤ v dest t * net.scale ^ t = mul-le-mul_right (net.scale ^ t) (covers.at_dest t) in
      rw (score-at_dest net dest i t tree at, at) whole

  mutual
    -- every tree scores at most the value
    pub covered : (tree : Tree) (i t : ℕ) → Fits net i tree → ONE * score net dest i t tree ≤ v i t * net.scale ^ t
    covered stop i t fits =
        ⊎_elim
        (λ at. arrived i t stop at)
        (λ off. rw (score-stop net dest i t off) (omega arith))
        (cases_eq i dest)
    covered (go e trees) i t fits =
        ⊎_elim
        (λ at. arrived i t (go e trees) at)
        (λ off.
        let a : Arc = fits.0 in
        let is : IsArc net a = arc-valid net valid e a fits.1 in
        let sum : ONE * scores net dest a.head t a.time trees * net.scale ≤ weighed (v a.head) t a.time * net.scale ^ t = all-covered trees a.time a.head t 0 fits.3 is.time in
        rw (score-go net dest i t e a trees off fits.1)
        (close-up ONE net.scale (scores net dest a.head t a.time trees) (plain_sum a v t) _ (net.scale ^ t) valid.scale sum (covers.elsewhere i t e a off fits.1 fits.2)))
        (cases_eq i dest)

    all-covered : (trees : Trees) (ps : List (ℕ × ℕ)) (j t floor : ℕ) → AllFit net j ps trees → RisesFrom floor ps
        → ONE * scores net dest j t ps trees * net.scale ≤ weighed (v j) t ps * net.scale ^ t
    all-covered no_trees [] j t floor fits r = rw scores-end (omega arith)
    all-covered no_trees (p ∷ ps) j t floor fits r = absurd fits
    all-covered (tree_then child rest) [] j t floor fits r = absurd fits
    all-covered (tree_then child rest) (p ∷ ps) j t floor fits r =
        let more : ONE * scores net dest j t ps rest * net.scale ≤ weighed (v j) t ps * net.scale ^ t = all-covered rest ps j t p.0 fits.1 r.2 in
        ⊎_elim
        (λ out. rw (scores-out net dest j t p ps child rest out, weighed-out (v j) t p ps out) more)
        (λ inside.
        let here : ONE * score net dest j (t - p.0) child ≤ v j (t - p.0) * net.scale ^ (t - p.0) = covered child j (t - p.0) fits.0 in
        let parts : net.scale ^ t ≡ net.scale ^ (p.0 - 1) * net.scale * net.scale ^ (t - p.0) = power-parts net.scale p.0 t (let y : 1 ≤ p.0 = omega arith in y) inside in
        rw (scores-in net dest j t p ps child rest inside, weighed-in (v j) t p ps inside)
        (step-up ONE p.1 net.scale _ _ _ _ _ _ _ parts here more))
        (cases_lt t p.0)

module _ (net : Net) (valid : IsNet net) (dest : ℕ) where
  -- no arc exceeds the upper values
  grid-covers : Covers net dest (hi net dest)
  grid-covers = record {
    at_dest = λ t. omega (arith, hi-at_dest net valid dest dest t refl);
    elsewhere = λ i t e a off is tail.
        let has : plain_sum a (hi net dest) t ≤ best_sum net (hi net dest) i t = best-has_number net (λ b. plain_sum b (hi net dest) t) i e a is tail in
        rw (hi-elsewhere net valid dest i t off) (omega (arith, has, ceiling-up net.scale (best_sum net (hi net dest) i t) valid.scale));
  }

  -- every tree scores at most the upper value
  pub upper : (tree : Tree) (i t : ℕ) → Fits net i tree → ONE * score net dest i t tree ≤ hi net dest i t * net.scale ^ t
  upper tree i t fits = covered net valid dest (hi net dest) grid-covers tree i t fits
