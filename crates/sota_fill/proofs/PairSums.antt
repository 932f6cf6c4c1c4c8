-- Sums over the pairs of a travel time, pair by pair.
use Rattle.std.proofs.Common.{ℕ, suc, ◌≡◌, ◌+◌, ◌-◌, ◌*◌, ◌<◌, ◌≤◌, cond, nat_eq, ◌==◌, true, false, List, [], ◌∷◌, refl, ◌∙◌, ap, arith, ⊎_elim}
use Rattle.std.proofs.lemmas.Bool.{le-leb, lt-leb, cases_lt, cases_Bool}
use Rattle.std.specs.List.{filter}
use Rattle.std.proofs.lemmas.List.Sums.{sum_by-cons}
use Rattle.sota_hist.specs.Time.{RisesFrom, total, within, mass_at}
use Rattle.sota_network.specs.Grid.{weighed}

pub weighed-in : (v : ℕ → ℕ) (t : ℕ) (p : ℕ × ℕ) (ps : List (ℕ × ℕ)) → p.0 ≤ t → weighed v t (p ∷ ps) ≡ p.1 * v (t - p.0) + weighed v t ps
weighed-in v t p ps h = rw (le-leb p.0 t h) (sum_by-cons (λ (q : ℕ × ℕ). q.1 * v (t - q.0)) p (within t ps))

pub weighed-out : (v : ℕ → ℕ) (t : ℕ) (p : ℕ × ℕ) (ps : List (ℕ × ℕ)) → t < p.0 → weighed v t (p ∷ ps) ≡ weighed v t ps
weighed-out v t p ps h = rw (lt-leb p.0 t h) refl

pub total-cons : (p : ℕ × ℕ) (ps : List (ℕ × ℕ)) → total (p ∷ ps) ≡ p.1 + total ps
total-cons p ps = sum_by-cons (λ (q : ℕ × ℕ). q.1) p ps

pub mass_at-cons : (t : ℕ) (p : ℕ × ℕ) (ps : List (ℕ × ℕ)) → mass_at t (p ∷ ps) ≡ cond (nat_eq p.0 t) p.1 0 + mass_at t ps
mass_at-cons t p ps =
    ⊎_elim (λ (here : nat_eq p.0 t ≡ true). rw here (total-cons p (filter (λ (q : ℕ × ℕ). q.0 == t) ps))) (λ (off : nat_eq p.0 t ≡ false). rw off (omega arith)) (cases_Bool (nat_eq p.0 t))

-- values that are equal as far as a time reads them
pub weighed-same : (v w : ℕ → ℕ) (t floor : ℕ) (ps : List (ℕ × ℕ)) → RisesFrom floor ps → ((u : ℕ) → u + suc floor ≤ t → v u ≡ w u) → weighed v t ps ≡ weighed w t ps
weighed-same v w t floor [] r same = refl
weighed-same v w t floor (p ∷ ps) r same =
    let rest : weighed v t ps ≡ weighed w t ps = weighed-same v w t p.0 ps r.2 (λ u h. same u (omega (arith, r.0))) in
    ⊎_elim
    (λ (out : t < p.0). rw (weighed-out v t p ps out, weighed-out w t p ps out) rest)
    (λ (inside : p.0 ≤ t).
    let value : v (t - p.0) ≡ w (t - p.0) = same (t - p.0) (omega (arith, r.0)) in
    weighed-in v t p ps inside ∙ ap (λ (x : ℕ). p.1 * x + weighed v t ps) value ∙ ap (λ (x : ℕ). p.1 * w (t - p.0) + x) rest ∙ (rw (weighed-in w t p ps inside) refl))
    (cases_lt t p.0)
