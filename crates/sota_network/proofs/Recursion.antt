-- The grid and the tree of a rule satisfy their recursion: each step reads only smaller budgets,
-- since each tick is at least 1.
use Rattle.std.proofs.Common.{ℕ, zero, suc, ◌≡◌, ◌-◌, ◌<◌, List, [], ◌∷◌, Option, Some, None, refl, ap, arith, ⊎_elim, ◌==◌, if◌then◌else◌, subst}
use Rattle.std.proofs.lemmas.List.Elements.{All-weaker}
use Rattle.std.proofs.lemmas.Option.{slice_get_within, get_or_from_slice_get}
use Rattle.std.proofs.lemmas.Bool.{cases_lt, le-leb, lt-leb}
use Rattle.sota_hist.specs.Time.{RisesFrom}
use Rattle.sota_network.specs.Network.{Net, IsNet, IsArc, arc_at}
use Rattle.sota_network.specs.Grid.{Causal, plain_sum, best_sum, value_from, lo, hi}
use Rattle.sota_network.specs.Trees.{Tree, stop, tree_then, children, go_by, follow_step, follow}
use Rattle.sota_network.specs.declared.network.Arc.{Arc}
use Rattle.sota_units.specs.Rounding.{ONE, floor_by, ceiling_by}
use Rattle.sota_network.proofs.Sums.{weighed-agree}
use Rattle.sota_network.proofs.Best.{best-agree}
use Rattle.sota_network.proofs.Budget.{by_budget-is}

-- the greatest plain sum reads only smaller budgets
pub best-reads : (net : Net) → IsNet net → (f g : ℕ → ℕ → ℕ) (i t : ℕ) → ((j u : ℕ) → u < t → f j u ≡ g j u) → best_sum net f i t ≡ best_sum net g i t
best-reads net valid f g i t agree =
    let P : Arc → ℕ = λ a. plain_sum a f t in
    let R : Arc → ℕ = λ a. plain_sum a g t in
    let same : (a : Arc) → IsArc net a → P a ≡ R a = λ a v. weighed-agree (f a.head) (g a.head) t 0 (λ u h. agree a.head u h) a.time v.time in
    best-agree P R i net.arcs (All-weaker (IsArc net) (λ a. a.tail ≡ i → P a ≡ R a) (λ a v tail. same a v) net.arcs valid.arcs)

value-causal : (round : ℕ → ℕ → ℕ) (net : Net) (dest : ℕ) → IsNet net → Causal (value_from round net dest)
value-causal round net dest valid f g i t agree =
    ap (λ (b : ℕ). if i == dest then ONE else round net.scale b) (best-reads net valid f g i t agree)

pub lo-is : (net : Net) (dest : ℕ) → IsNet net → (i t : ℕ) → lo net dest i t ≡ value_from floor_by net dest (lo net dest) i t
unfolding lo
lo-is net dest valid i t = by_budget-is 0 (value_from floor_by net dest) (value-causal floor_by net dest valid) i t

pub hi-is : (net : Net) (dest : ℕ) → IsNet net → (i t : ℕ) → hi net dest i t ≡ value_from ceiling_by net dest (hi net dest) i t
unfolding hi
hi-is net dest valid i t = by_budget-is 0 (value_from ceiling_by net dest) (value-causal ceiling_by net dest valid) i t

-- the children of a road read only smaller budgets
children-read : (f g : ℕ → ℕ → Tree) (j t floor : ℕ) → ((u : ℕ) → u < t → f j u ≡ g j u) → (ps : List (ℕ × ℕ)) → RisesFrom floor ps → children f j t ps ≡ children g j t ps
children-read f g j t floor agree [] r = refl
children-read f g j t floor agree (p ∷ ps) r =
    let rest : children f j t ps ≡ children g j t ps = children-read f g j t p.0 agree ps r.2 in
    ⊎_elim
    (λ out. rw (lt-leb p.0 t out) (ap (tree_then stop) rest))
    (λ inside.
    let less : t - p.0 < t = omega arith in
    rw (le-leb p.0 t inside, agree (t - p.0) less, rest) refl)
    (cases_lt t p.0)

-- the arc of a number is one of the network
pub arc-valid : (net : Net) → IsNet net → (e : ℕ) (a : Arc) → arc_at net e ≡ Some a → IsArc net a
arc-valid net valid zero a is = cc
arc-valid net valid (suc k) a is =
    subst (λ b. IsArc net b) (get_or_from_slice_get net.arcs k a a is) (valid.arcs k a (slice_get_within net.arcs k a is))

-- where a road is taken, what follows reads only smaller budgets
go-reads : (net : Net) → IsNet net → (f g : ℕ → ℕ → Tree) (i t e : ℕ) → ((j u : ℕ) → u < t → f j u ≡ g j u) → (o : Option Arc) → arc_at net e ≡ o → go_by net f i t e ≡ go_by net g i t e
go-reads net valid f g i t e agree None is = rw (is, go_by) refl
go-reads net valid f g i t e agree (Some a) is =
    let v : IsArc net a = arc-valid net valid e a is in
    let same : children f a.head t a.time ≡ children g a.head t a.time = children-read f g a.head t 0 (λ u h. agree a.head u h) a.time v.time in
    rw (is, go_by) (rw same refl)

rule-reads : (net : Net) → IsNet net → (f g : ℕ → ℕ → Tree) (i t : ℕ) → ((j u : ℕ) → u < t → f j u ≡ g j u) → (o : Option ℕ)
    → (elim o as (λ _. Tree) [ None ↦ stop | Some e ↦ go_by net f i t e ]) ≡ (elim o as (λ _. Tree) [ None ↦ stop | Some e ↦ go_by net g i t e ])
rule-reads net valid f g i t agree None = refl
rule-reads net valid f g i t agree (Some e) = go-reads net valid f g i t e agree (arc_at net e) refl

follow-causal : (net : Net) (rule : ℕ → ℕ → Option ℕ) (dest : ℕ) → IsNet net → Causal (follow_step net rule dest)
follow-causal net rule dest valid f g i t agree =
    ap (λ (tree : Tree). if i == dest then stop else tree) (rule-reads net valid f g i t agree (rule i t))

pub follow-is : (net : Net) (rule : ℕ → ℕ → Option ℕ) (dest : ℕ) → IsNet net → (i t : ℕ) → follow net rule dest i t ≡ follow_step net rule dest (follow net rule dest) i t
unfolding follow
follow-is net rule dest valid i t = by_budget-is stop (follow_step net rule dest) (follow-causal net rule dest valid) i t
