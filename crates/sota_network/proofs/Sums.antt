-- Sums over the pairs of a travel time.
use Rattle.std.proofs.Common.{ℕ, ◌≡◌, ◌+◌, ◌-◌, ◌*◌, ◌<◌, ◌≤◌, List, [], ◌∷◌, ◌++◌, length, get_or, take, refl, sym, ◌∙◌, ap, arith, ⊎_elim}
use Rattle.std.proofs.lemmas.List.{take_more}
use Rattle.std.proofs.lemmas.List.Elements.{filter-append}
use Rattle.std.proofs.lemmas.List.Sums.{sum_by-cons, sum_by-append, sum_by_more}
use Rattle.std.proofs.lemmas.Bool.{le-leb, lt-leb, cases_lt}
use Rattle.std.proofs.Math.Nat.{mul-le-mul_left}
use Rattle.sota_hist.specs.Time.{RisesFrom, total, within}
use Rattle.sota_network.specs.Grid.{weighed}

-- a pair within the budget, and one that is not
pub weighed-in : (v : ℕ → ℕ) (t : ℕ) (p : ℕ × ℕ) (ps : List (ℕ × ℕ)) → p.0 ≤ t → weighed v t (p ∷ ps) ≡ p.1 * v (t - p.0) + weighed v t ps
weighed-in v t p ps h = rw (le-leb p.0 t h) (sum_by-cons (λ (q : ℕ × ℕ). q.1 * v (t - q.0)) p (within t ps))

pub weighed-out : (v : ℕ → ℕ) (t : ℕ) (p : ℕ × ℕ) (ps : List (ℕ × ℕ)) → t < p.0 → weighed v t (p ∷ ps) ≡ weighed v t ps
weighed-out v t p ps h = rw (lt-leb p.0 t h) refl

pub total-cons : (p : ℕ × ℕ) (ps : List (ℕ × ℕ)) → total (p ∷ ps) ≡ p.1 + total ps
total-cons p ps = sum_by-cons (λ (q : ℕ × ℕ). q.1) p ps

-- values that are larger by at most g weigh more by at most the total times g
pub weighed-le : (v w : ℕ → ℕ) (g t floor : ℕ) → ((u : ℕ) → u < t → v u ≤ w u + g) → (ps : List (ℕ × ℕ)) → RisesFrom floor ps → weighed v t ps ≤ weighed w t ps + total ps * g
weighed-le v w g t floor h [] r = omega arith
weighed-le v w g t floor h (p ∷ ps) r =
    let rest : weighed v t ps ≤ weighed w t ps + total ps * g = weighed-le v w g t p.0 h ps r.2 in
    let whole : total (p ∷ ps) * g ≡ p.1 * g + total ps * g = rw total-cons (omega arith) in
    ⊎_elim
    (λ (out : t < p.0). rw (weighed-out v t p ps out, weighed-out w t p ps out, whole) (omega arith))
    (λ (inside : p.0 ≤ t).
    let less : t - p.0 < t = omega arith in
    let le : v (t - p.0) ≤ w (t - p.0) + g = h (t - p.0) less in
    let one : p.1 * v (t - p.0) ≤ p.1 * (w (t - p.0) + g) = mul-le-mul_left p.1 le in
    rw (weighed-in v t p ps inside, weighed-in w t p ps inside, whole) (omega arith))
    (cases_lt t p.0)

-- a sum reads only the values at smaller budgets
pub weighed-agree : (v w : ℕ → ℕ) (t floor : ℕ) → ((u : ℕ) → u < t → v u ≡ w u) → (ps : List (ℕ × ℕ)) → RisesFrom floor ps → weighed v t ps ≡ weighed w t ps
weighed-agree v w t floor h ps r =
    let a : weighed v t ps ≤ weighed w t ps + total ps * 0 = weighed-le v w 0 t floor (λ u k. omega (arith, h u k)) ps r in
    let b : weighed w t ps ≤ weighed v t ps + total ps * 0 = weighed-le w v 0 t floor (λ u k. omega (arith, h u k)) ps r in
    omega arith

weighed-zero : (t : ℕ) (ps : List (ℕ × ℕ)) → weighed (λ u. 0) t ps ≡ 0
weighed-zero t [] = refl
weighed-zero t (p ∷ ps) =
    let rest : weighed (λ u. 0) t ps ≡ 0 = weighed-zero t ps in
    ⊎_elim
    (λ (out : t < p.0). rw (weighed-out (λ u. 0) t p ps out) rest)
    (λ (inside : p.0 ≤ t). rw (weighed-in (λ u. 0) t p ps inside) (omega arith))
    (cases_lt t p.0)

-- the sum of values of at most m
pub weighed-bound : (v : ℕ → ℕ) (m t floor : ℕ) → ((u : ℕ) → u < t → v u ≤ m) → (ps : List (ℕ × ℕ)) → RisesFrom floor ps → weighed v t ps ≤ total ps * m
weighed-bound v m t floor h ps r =
    let above : weighed v t ps ≤ weighed (λ u. 0) t ps + total ps * m = weighed-le v (λ u. 0) m t floor (λ u less. omega (arith, h u less)) ps r in
    omega (arith, weighed-zero t ps)

weighed-append : (v : ℕ → ℕ) (t : ℕ) (xs ys : List (ℕ × ℕ)) → weighed v t (xs ++ ys) ≡ weighed v t xs + weighed v t ys
weighed-append v t xs ys =
    rw (filter-append {X = ℕ × ℕ}) (sum_by-append (λ (q : ℕ × ℕ). q.1 * v (t - q.0)) (within t xs) (within t ys))

-- one pair more, of a list that is gone over from the front
pub weighed-more_in : (v : ℕ → ℕ) (t : ℕ) (ps : List (ℕ × ℕ)) (k : ℕ) (p : ℕ × ℕ) → k < length ps → p ≡ get_or ps k p → p.0 ≤ t
    → weighed v t (take (k + 1) ps) ≡ weighed v t (take k ps) + p.1 * v (t - p.0)
weighed-more_in v t ps k p h is le =
    let front : take (k + 1) ps ≡ take k ps ++ p ∷ [] = take_more ps k p h ∙ ap (λ (q : ℕ × ℕ). take k ps ++ q ∷ []) (sym is) in
    let one : weighed v t (p ∷ []) ≡ p.1 * v (t - p.0) = weighed-in v t p [] le ∙ omega arith in
    ap (weighed v t) front ∙ weighed-append v t (take k ps) (p ∷ []) ∙ ap (λ (n : ℕ). weighed v t (take k ps) + n) one

pub weighed-more_out : (v : ℕ → ℕ) (t : ℕ) (ps : List (ℕ × ℕ)) (k : ℕ) (p : ℕ × ℕ) → k < length ps → p ≡ get_or ps k p → t < p.0
    → weighed v t (take (k + 1) ps) ≡ weighed v t (take k ps)
weighed-more_out v t ps k p h is lt =
    let front : take (k + 1) ps ≡ take k ps ++ p ∷ [] = take_more ps k p h ∙ ap (λ (q : ℕ × ℕ). take k ps ++ q ∷ []) (sym is) in
    let none : weighed v t (p ∷ []) ≡ 0 = weighed-out v t p [] lt in
    ap (weighed v t) front ∙ weighed-append v t (take k ps) (p ∷ []) ∙ omega arith

pub total-more : (ps : List (ℕ × ℕ)) (k : ℕ) (p : ℕ × ℕ) → k < length ps → p ≡ get_or ps k p → total (take (k + 1) ps) ≡ total (take k ps) + p.1
total-more ps k p h is = sum_by_more (λ (q : ℕ × ℕ). q.1) ps k p h ∙ ap (λ (q : ℕ × ℕ). total (take k ps) + q.1) (sym is)
