-- A travel time is known by its pairs.
use Rattle.std.proofs.Common.{ℕ, ◌≡◌, cond, List, [], ◌∷◌, Option, None, Some, refl, sym, ◌∙◌, ap, arith, ◌==◌}
use Rattle.std.specs.List.{sum_by}
use Rattle.std.proofs.lemmas.Bool.{le-leb}
use Rattle.std.proofs.lemmas.List.Sums.{sum_by-cons}
use Rattle.sota_hist.specs.Time.{RisesFrom, IsTime, mass_at}
use Rattle.sota_hist.specs.Build.{inserted, rising}
use Rattle.sota_hist.proofs.Ticks.{mass_at-cons}
use Rattle.sota_hist.proofs.Parting.{Parts, parting, parts}

placed-first : (p : ℕ × ℕ) (ps : List (ℕ × ℕ)) → RisesFrom p.0 ps → inserted p ps ≡ p ∷ ps
placed-first p [] rises = refl
placed-first p (q ∷ qs) rises = rw (le-leb p.0 q.0 (omega (arith, rises.0))) refl

pub rising-done : (floor : ℕ) (ps : List (ℕ × ℕ)) → RisesFrom floor ps → rising ps ≡ ps
rising-done floor [] rises = refl
rising-done floor (p ∷ ps) rises =
    ap (inserted p) (rising-done p.0 ps rises.2) ∙ placed-first p ps rises.2

-- the mass at a tick is a sum over the pairs
mass_at-sum : (t : ℕ) (ps : List (ℕ × ℕ))
    → mass_at t ps ≡ sum_by (λ (p : ℕ × ℕ). cond (p.0 == t) p.1 0) ps
mass_at-sum t [] = refl
mass_at-sum t (p ∷ ps) =
    omega (arith, mass_at-cons t p ps, mass_at-sum t ps, sum_by-cons (λ (q : ℕ × ℕ). cond (q.0 == t) q.1 0) p ps)

no_difference : (one other : List (ℕ × ℕ)) (r : Option ℕ) → Parts one other r
    → ((t : ℕ) → mass_at t one ≡ mass_at t other) → one ≡ other
no_difference one other None parts same = parts.same refl
no_difference one other (Some t) parts same = absurd (parts.least.0 (same t))

pub sums-decide : (one other : List (ℕ × ℕ)) → IsTime one → IsTime other
    → ((weight : ℕ × ℕ → ℕ) → sum_by weight one ≡ sum_by weight other) → one ≡ other
sums-decide one other rises rises' same =
    no_difference one other (parting one other) (parts 0 one other rises rises')
    (λ t. mass_at-sum t one ∙ same (λ (p : ℕ × ℕ). cond (p.0 == t) p.1 0) ∙ sym (mass_at-sum t other))
