-- Sums over the pairs of a travel time, pair by pair.
use Rattle.std.proofs.Common.{ℕ, ◌≡◌, ◌+◌, ◌-◌, ◌*◌, ◌<◌, ◌≤◌, List, [], ◌∷◌, refl, arith}
use Rattle.std.proofs.lemmas.Bool.{le-leb, lt-leb}
use Rattle.std.proofs.lemmas.List.Sums.{sum_by-cons}
use Rattle.sota_hist.specs.Time.{RisesFrom, total, within}
use Rattle.sota_network.specs.Grid.{weighed}

pub within-in : (t : ℕ) (p : ℕ × ℕ) (ps : List (ℕ × ℕ)) → p.0 ≤ t → within t (p ∷ ps) ≡ p ∷ within t ps
within-in t p ps h = rw (le-leb p.0 t h) refl

pub within-out : (t : ℕ) (p : ℕ × ℕ) (ps : List (ℕ × ℕ)) → t < p.0 → within t (p ∷ ps) ≡ within t ps
within-out t p ps h = rw (lt-leb p.0 t h) refl

pub within_none : (floor t : ℕ) (ps : List (ℕ × ℕ)) → RisesFrom floor ps → t ≤ floor → within t ps ≡ []
within_none floor t [] r low = refl
within_none floor t (p ∷ ps) r low =
    let late : t < p.0 = omega (arith, r.0) in
    rw (lt-leb p.0 t late) (within_none p.0 t ps r.2 (omega (arith, r.0)))

pub weighed-in : (v : ℕ → ℕ) (t : ℕ) (p : ℕ × ℕ) (ps : List (ℕ × ℕ)) → p.0 ≤ t → weighed v t (p ∷ ps) ≡ p.1 * v (t - p.0) + weighed v t ps
weighed-in v t p ps h = rw (le-leb p.0 t h) (sum_by-cons (λ (q : ℕ × ℕ). q.1 * v (t - q.0)) p (within t ps))

pub weighed-out : (v : ℕ → ℕ) (t : ℕ) (p : ℕ × ℕ) (ps : List (ℕ × ℕ)) → t < p.0 → weighed v t (p ∷ ps) ≡ weighed v t ps
weighed-out v t p ps h = rw (lt-leb p.0 t h) refl

pub total-cons : (p : ℕ × ℕ) (ps : List (ℕ × ℕ)) → total (p ∷ ps) ≡ p.1 + total ps
total-cons p ps = sum_by-cons (λ (q : ℕ × ℕ). q.1) p ps
