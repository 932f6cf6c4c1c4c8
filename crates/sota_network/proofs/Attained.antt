-- The tree of a rule attains all values that the rule keeps up, and the choices keep up the lower
-- ones.
use Rattle.std.proofs.Common.{ℕ, zero, suc, ◌≡◌, ◌+◌, ◌-◌, ◌*◌, ◌^◌, ◌/◌, ◌<◌, ◌≤◌, List, [], ◌∷◌, Option, Some, None, refl, sym, ◌∙◌, arith, ⊎_elim, subst}
use Rattle.std.proofs.lemmas.Bool.{eq-eqb, ne_eqb, cases_eq, cases_lt, le-leb, lt-leb}
use Rattle.std.proofs.Math.Nat.{mul-le-mul_right, div-mul-le_self}
use Rattle.sota_hist.specs.Time.{RisesFrom}
use Rattle.sota_network.specs.Network.{Net, IsNet, IsArc, arc_at}
use Rattle.sota_network.specs.Grid.{weighed, plain_sum, best_sum, lo, choice}
use Rattle.sota_network.specs.Trees.{Tree, Trees, stop, go, no_trees, tree_then, children, go_by, follow, Fits, AllFit, score, scores}
use Rattle.sota_network.specs.Sound.{Sound}
use Rattle.sota_network.specs.declared.network.Arc.{Arc}
use Rattle.sota_units.specs.Rounding.{ONE, floor_by}
use Rattle.sota_network.proofs.Sums.{weighed-in, weighed-out}
use Rattle.sota_network.proofs.Chosen.{chosen-some, chosen-first}
use Rattle.sota_network.proofs.Recursion.{arc-valid, follow-is}
use Rattle.sota_network.proofs.Pairs.{power-parts, step-down, close-down, positive-from}
use Rattle.sota_network.proofs.Outward.{score-at_dest, score-go, scores-in, scores-out, scores-end, lo-at_dest, lo-elsewhere}

-- the choice is none at the destination
pub choice-at_dest : (net : Net) (dest i t : ℕ) → i ≡ dest → choice net dest i t ≡ None
unfolding choice
choice-at_dest net dest i t h = rw (eq-eqb i dest h) refl

pub choice-none : (net : Net) (dest i t : ℕ) → best_sum net (lo net dest) i t ≡ 0 → choice net dest i t ≡ None
unfolding choice
choice-none net dest i t h =
    ⊎_elim (λ at. rw (eq-eqb i dest at) refl) (λ off. rw (ne_eqb i dest off, eq-eqb _ 0 h) refl) (cases_eq i dest)

-- where a plain sum is positive, the choice is an arc of the node that attains the greatest
pub choice-found : (net : Net) (dest i t : ℕ) → (i ≡ dest → ⊥) → 0 < best_sum net (lo net dest) i t
    → (e : ℕ) × (a : Arc) × (choice net dest i t ≡ Some e) × (arc_at net e ≡ Some a) × (a.tail ≡ i) × (plain_sum a (lo net dest) t ≡ best_sum net (lo net dest) i t)
unfolding choice
choice-found net dest i t off h =
    let worth : Arc → ℕ = λ b. plain_sum b (lo net dest) t in
    let some = chosen-some net worth i h in
    let first = chosen-first net worth i some.0 some.1 in
    (some.0, first.arc, rw (ne_eqb i dest off) some.1, first.number, first.tail, first.greatest)

-- what a rule gives, case by case
pub follow-at_dest : (net : Net) (rule : ℕ → ℕ → Option ℕ) (dest : ℕ) → IsNet net → (i t : ℕ) → i ≡ dest → follow net rule dest i t ≡ stop
follow-at_dest net rule dest valid i t h = follow-is net rule dest valid i t ∙ (rw (eq-eqb i dest h) refl)

pub follow-none : (net : Net) (rule : ℕ → ℕ → Option ℕ) (dest : ℕ) → IsNet net → (i t : ℕ) → rule i t ≡ None → follow net rule dest i t ≡ stop
follow-none net rule dest valid i t h =
    follow-is net rule dest valid i t
    ∙ ⊎_elim (λ at. rw (eq-eqb i dest at) refl) (λ off. rw (ne_eqb i dest off, h) refl) (cases_eq i dest)

pub follow-lost : (net : Net) (rule : ℕ → ℕ → Option ℕ) (dest : ℕ) → IsNet net → (i t e : ℕ) → rule i t ≡ Some e → arc_at net e ≡ None → follow net rule dest i t ≡ stop
follow-lost net rule dest valid i t e h is =
    follow-is net rule dest valid i t
    ∙ ⊎_elim (λ at. rw (eq-eqb i dest at) refl) (λ off. rw (ne_eqb i dest off, h) (rw (is, go_by) refl)) (cases_eq i dest)

pub follow-astray : (net : Net) (rule : ℕ → ℕ → Option ℕ) (dest : ℕ) → IsNet net → (i t e : ℕ) (a : Arc) → rule i t ≡ Some e → arc_at net e ≡ Some a → (a.tail ≡ i → ⊥)
    → follow net rule dest i t ≡ stop
follow-astray net rule dest valid i t e a h is tail =
    follow-is net rule dest valid i t
    ∙ ⊎_elim (λ at. rw (eq-eqb i dest at) refl) (λ off. rw (ne_eqb i dest off, h) (rw (is, go_by) (rw (ne_eqb a.tail i tail) refl))) (cases_eq i dest)

pub follow-go : (net : Net) (rule : ℕ → ℕ → Option ℕ) (dest : ℕ) → IsNet net → (i t e : ℕ) (a : Arc) → (i ≡ dest → ⊥) → rule i t ≡ Some e → arc_at net e ≡ Some a → a.tail ≡ i
    → follow net rule dest i t ≡ go e (children (follow net rule dest) a.head t a.time)
follow-go net rule dest valid i t e a off h is tail =
    follow-is net rule dest valid i t ∙ (rw (ne_eqb i dest off, h) (rw (is, go_by) (rw (eq-eqb a.tail i tail) refl)))

pub children-in : (f : ℕ → ℕ → Tree) (j t : ℕ) (p : ℕ × ℕ) (ps : List (ℕ × ℕ)) → p.0 ≤ t → children f j t (p ∷ ps) ≡ tree_then (f j (t - p.0)) (children f j t ps)
children-in f j t p ps h = rw (le-leb p.0 t h) refl

pub children-out : (f : ℕ → ℕ → Tree) (j t : ℕ) (p : ℕ × ℕ) (ps : List (ℕ × ℕ)) → t < p.0 → children f j t (p ∷ ps) ≡ tree_then stop (children f j t ps)
children-out f j t p ps h = rw (lt-leb p.0 t h) refl

children-fit : (net : Net) (f : ℕ → ℕ → Tree) (j t floor : ℕ) → ((u : ℕ) → u < t → Fits net j (f j u)) → (ps : List (ℕ × ℕ)) → RisesFrom floor ps → AllFit net j ps (children f j t ps)
children-fit net f j t floor fit [] r = tt
children-fit net f j t floor fit (p ∷ ps) r =
    let rest : AllFit net j ps (children f j t ps) = children-fit net f j t p.0 fit ps r.2 in
    ⊎_elim
    (λ out. subst (λ (c : Trees). AllFit net j (p ∷ ps) c) (sym (children-out f j t p ps out)) (tt, rest))
    (λ inside.
    let less : t - p.0 < t = omega arith in
    subst (λ (c : Trees). AllFit net j (p ∷ ps) c) (sym (children-in f j t p ps inside)) (fit (t - p.0) less, rest))
    (cases_lt t p.0)

module _ (net : Net) (valid : IsNet net) (rule : ℕ → ℕ → Option ℕ) (dest : ℕ) where
  fits-arc : (i t e : ℕ) → ((j u : ℕ) → u < t → Fits net j (follow net rule dest j u)) → rule i t ≡ Some e → (o : Option Arc) → arc_at net e ≡ o → Fits net i (follow net rule dest i t)
  fits-arc i t e below h None is = subst (λ (tree : Tree). Fits net i tree) (sym (follow-lost net rule dest valid i t e h is)) tt
  fits-arc i t e below h (Some a) is =
      ⊎_elim
      (λ at. subst (λ (tree : Tree). Fits net i tree) (sym (follow-at_dest net rule dest valid i t at)) tt)
      (λ off.
      ⊎_elim
      (λ tail.
      let v : IsArc net a = arc-valid net valid e a is in
      let all : AllFit net a.head a.time (children (follow net rule dest) a.head t a.time) =
      children-fit net (follow net rule dest) a.head t 0 (λ u less. below a.head u less) a.time v.time in
      subst (λ (tree : Tree). Fits net i tree) (sym (follow-go net rule dest valid i t e a off h is tail)) (a, is, tail, all))
      (λ astray. subst (λ (tree : Tree). Fits net i tree) (sym (follow-astray net rule dest valid i t e a h is astray)) tt)
      (cases_eq a.tail i))
      (cases_eq i dest)

  fits-by : (i t : ℕ) → ((j u : ℕ) → u < t → Fits net j (follow net rule dest j u)) → (o : Option ℕ) → rule i t ≡ o → Fits net i (follow net rule dest i t)
  fits-by i t below None h = subst (λ (tree : Tree). Fits net i tree) (sym (follow-none net rule dest valid i t h)) tt
  fits-by i t below (Some e) h = fits-arc i t e below h (arc_at net e) refl

  -- the tree of any rule may be begun at its node
  pub fits-below : (k i t : ℕ) → t < k → Fits net i (follow net rule dest i t)
  fits-below zero i t h = absurd (omega arith)
  fits-below (suc k) i t h = fits-by i t (λ j u less. fits-below k j u (omega arith)) (rule i t) refl

  pub fits : (i t : ℕ) → Fits net i (follow net rule dest i t)
  fits i t = fits-below (suc t) i t (omega arith)

module _ (net : Net) (valid : IsNet net) (dest : ℕ) where
  children-attain : (v : ℕ → ℕ) (f : ℕ → ℕ → Tree) (j t floor : ℕ) → ((u : ℕ) → u < t → v u * net.scale ^ u ≤ ONE * score net dest j u (f j u)) → (ps : List (ℕ × ℕ)) → RisesFrom floor ps
      → weighed v t ps * net.scale ^ t ≤ ONE * scores net dest j t ps (children f j t ps) * net.scale
  children-attain v f j t floor attain [] r = rw (scores-end net dest j t no_trees) (omega arith)
  children-attain v f j t floor attain (p ∷ ps) r =
      let more : weighed v t ps * net.scale ^ t ≤ ONE * scores net dest j t ps (children f j t ps) * net.scale = children-attain v f j t p.0 attain ps r.2 in
      ⊎_elim
      (λ out. rw (children-out f j t p ps out, scores-out net dest j t p ps stop (children f j t ps) out, weighed-out v t p ps out) more)
      (λ inside.
      let less : t - p.0 < t = omega arith in
      let here : v (t - p.0) * net.scale ^ (t - p.0) ≤ ONE * score net dest j (t - p.0) (f j (t - p.0)) = attain (t - p.0) less in
      let parts : net.scale ^ t ≡ net.scale ^ (p.0 - 1) * net.scale * net.scale ^ (t - p.0) = power-parts net.scale p.0 t (let y : 1 ≤ p.0 = omega arith in y) inside in
      rw (children-in f j t p ps inside, scores-in net dest j t p ps (f j (t - p.0)) (children f j t ps) inside, weighed-in v t p ps inside)
      (step-down ONE p.1 net.scale _ _ _ _ _ _ _ parts here more))
      (cases_lt t p.0)

module _ (net : Net) (valid : IsNet net) (dest : ℕ) (v : ℕ → ℕ → ℕ) (rule : ℕ → ℕ → Option ℕ) (sound : Sound net dest v rule) where
  -- the tree of the rule attains the values
  sound-below : (k i t : ℕ) → t < k → v i t * net.scale ^ t ≤ ONE * score net dest i t (follow net rule dest i t)
  sound-below zero i t h = absurd (omega arith)
  sound-below (suc k) i t h =
      ⊎_elim
      (λ (at : i ≡ dest).
      let whole : v i t * net.scale ^ t ≤ ONE * net.scale ^ t = mul-le-mul_right (net.scale ^ t) (rw at (sound.at_dest t)) in
      rw (score-at_dest net dest i t (follow net rule dest i t) at) whole)
      (λ (off : i ≡ dest → ⊥).
      ⊎_elim
      (λ (positive : 0 < v i t).
      let found = sound.elsewhere i t off positive in
      let e = found.0 in
      let a = found.1 in
      let is : IsArc net a = arc-valid net valid e a found.3 in
      let F = follow net rule dest in
      let sum : weighed (v a.head) t a.time * net.scale ^ t ≤ ONE * scores net dest a.head t a.time (children F a.head t a.time) * net.scale =
      children-attain net valid dest (v a.head) F a.head t 0 (λ u less. sound-below k a.head u (omega arith)) a.time is.time in
      rw (follow-go net rule dest valid i t e a off found.2 found.3 found.4, score-go net dest i t e a (children F a.head t a.time) off found.3)
      (close-down ONE net.scale _ (plain_sum a v t) _ (net.scale ^ t) valid.scale sum found.5))
      (λ (none : v i t ≤ 0).
      let zero-v : v i t ≡ 0 = omega arith in
      rw zero-v (omega arith))
      (cases_lt 0 (v i t)))
      (cases_eq i dest)

  pub sound-attained : (i t : ℕ) → v i t * net.scale ^ t ≤ ONE * score net dest i t (follow net rule dest i t)
  sound-attained i t = sound-below (suc t) i t (omega arith)

-- the choices keep up the lower values
lo-sound : (net : Net) → IsNet net → (dest : ℕ) → Sound net dest (lo net dest) (choice net dest)
lo-sound net valid dest = record {
  at_dest = λ t. omega (arith, lo-at_dest net valid dest dest t refl);
  elsewhere = λ i t off positive.
      let is : lo net dest i t ≡ floor_by net.scale (best_sum net (lo net dest) i t) = lo-elsewhere net valid dest i t off in
      let sum-positive : 0 < best_sum net (lo net dest) i t = positive-from net.scale (best_sum net (lo net dest) i t) (rw is at positive) in
      let found = choice-found net dest i t off sum-positive in
      (found.0, found.1, found.2, found.3, found.4, rw (is, found.5) (div-mul-le_self (best_sum net (lo net dest) i t) net.scale));
}

pub attained : (net : Net) → IsNet net → (dest i t : ℕ) → lo net dest i t * net.scale ^ t ≤ ONE * score net dest i t (follow net (choice net dest) dest i t)
attained net valid dest i t = sound-attained net valid dest (lo net dest) (choice net dest) (lo-sound net valid dest) i t
