-- The pairs of a time within a budget, and the sums over them.
use Rattle.std.proofs.Common.{ℕ, ◌≡◌, ◌+◌, ◌-◌, ◌*◌, ◌<◌, ◌≤◌, List, [], ◌∷◌, refl, subst, sym, arith, ⊎_elim}
use Rattle.std.specs.List.{sum_by}
use Rattle.std.proofs.lemmas.Bool.{le-leb, lt-leb, cases_lt}
use Rattle.std.proofs.lemmas.List.Sums.{sum_by-cons}
use Rattle.sota_hist.specs.Time.{RisesFrom, within}

-- all ticks are at least 1 and at most the budget
abbrev pub Inside : ℕ → List (ℕ × ℕ) → Type 0
Inside t [] = Unit {0}
Inside t (p ∷ ps) = (1 ≤ p.0) × (p.0 ≤ t) × Inside t ps

within-in : (t : ℕ) (p : ℕ × ℕ) (ps : List (ℕ × ℕ)) → p.0 ≤ t → within t (p ∷ ps) ≡ p ∷ within t ps
within-in t p ps h = rw (le-leb p.0 t h) refl

within-out : (t : ℕ) (p : ℕ × ℕ) (ps : List (ℕ × ℕ)) → t < p.0 → within t (p ∷ ps) ≡ within t ps
within-out t p ps h = rw (lt-leb p.0 t h) refl

pub within-inside : (t floor : ℕ) (ps : List (ℕ × ℕ)) → RisesFrom floor ps → Inside t (within t ps)
within-inside t floor [] r = tt
within-inside t floor (p ∷ ps) r =
    let rest : Inside t (within t ps) = within-inside t p.0 ps r.2 in
    ⊎_elim
    (λ (out : t < p.0). subst (λ (qs : List (ℕ × ℕ)). Inside t qs) (sym (within-out t p ps out)) rest)
    (λ (low : p.0 ≤ t).
    let positive : 1 ≤ p.0 = omega (arith, r.0) in
    subst (λ (qs : List (ℕ × ℕ)). Inside t qs) (sym (within-in t p ps low)) (positive, low, rest))
    (cases_lt t p.0)

-- the sum of each mass times the value at the budget that its tick leaves
abbrev pub weight : (ℕ → ℕ) → ℕ → List (ℕ × ℕ) → ℕ
weight v t ps = sum_by (λ p. p.1 * v (t - p.0)) ps

pub weight-cons : (v : ℕ → ℕ) (t : ℕ) (p : ℕ × ℕ) (ps : List (ℕ × ℕ))
    → weight v t (p ∷ ps) ≡ p.1 * v (t - p.0) + weight v t ps
weight-cons v t p ps = sum_by-cons (λ (q : ℕ × ℕ). q.1 * v (t - q.0)) p ps
