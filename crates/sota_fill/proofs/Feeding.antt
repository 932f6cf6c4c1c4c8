-- The sums of a summer that was fed the values at an arc's head are the arc's plain sums.
use Rattle.std.proofs.Common.{ℕ, zero, suc, ◌≡◌, ◌+◌, ◌-◌, ◌*◌, ◌<◌, ◌≤◌, cond, min, List, [], ◌∷◌, length, slice_index, refl, sym, ◌∙◌, ap, arith, ⊎_elim, nat_eq}
use Rattle.std.proofs.Math.ListN.{get_or-eq_default}
use Rattle.std.proofs.lemmas.List.FromFn.{get_or-map-range_with_len, length-map-range_with_len}
use Rattle.std.proofs.lemmas.Bool.{eq-eqb, ne_eqb, cases_eq, cases_lt}
use Rattle.sota_block.specs.Product.{sum_below}
use Rattle.sota_hist.specs.Time.{RisesFrom, IsTime, least_tick, greatest_tick, mass_at, span}
use Rattle.sota_network.specs.Grid.{weighed}
use Rattle.sota_fill.proofs.PairSums.{weighed-in, weighed-out, mass_at-cons}
use Rattle.sota_online.specs.Summer.{SummerState, kernel_of, plain}
use Rattle.sota_fill.specs.Fed.{IsFed}

-- ---- sums over the numbers below n
sum_below-same : (n : ℕ) (f g : ℕ → ℕ) → ((k : ℕ) → k < n → f k ≡ g k) → sum_below n f ≡ sum_below n g
sum_below-same zero f g same = refl
sum_below-same (suc n) f g same = omega (arith, sum_below-same n f g (λ k below. same k (omega arith)), same n (omega arith))

sum_below-zero : (n : ℕ) (f : ℕ → ℕ) → ((k : ℕ) → k < n → f k ≡ 0) → sum_below n f ≡ 0
sum_below-zero zero f none = refl
sum_below-zero (suc n) f none = omega (arith, sum_below-zero n f (λ k below. none k (omega arith)), none n (omega arith))

sum_below-plus : (n : ℕ) (f g : ℕ → ℕ) → sum_below n (λ k. f k + g k) ≡ sum_below n f + sum_below n g
sum_below-plus zero f g = refl
sum_below-plus (suc n) f g = omega (arith, sum_below-plus n f g)

-- ---- one pair
-- the mass of a pair at its tick alone
abbrev one : ℕ → ℕ → ℕ → ℕ
one q m t = cond (nat_eq q t) m 0

one-here : (q m t : ℕ) → q ≡ t → one q m t ≡ m
one-here q m t h = rw (eq-eqb q t h) refl

one-off : (q m t : ℕ) → (q ≡ t → ⊥) → one q m t ≡ 0
one-off q m t h = rw (ne_eqb q t h) refl

pick-out : (g : ℕ → ℕ) (l q m n : ℕ) → l + n ≤ q → sum_below n (λ b. one q m (l + b) * g b) ≡ 0
pick-out g l q m n far =
    sum_below-zero n (λ b. one q m (l + b) * g b)
    (λ b less.
    let off : q ≡ l + b → ⊥ = λ z. omega arith in
    ap (λ (x : ℕ). x * g b) (one-off q m (l + b) off) ∙ omega arith)

pick-in : (g : ℕ → ℕ) (l q m n k : ℕ) → q ≡ l + k → k < n → sum_below n (λ b. one q m (l + b) * g b) ≡ m * g k
pick-in g l q m zero k at less = absurd (omega arith)
pick-in g l q m (suc n) k at less =
    ⊎_elim
    (λ (last : k ≡ n).
    let here : q ≡ l + n = omega arith in
    let before : sum_below n (λ b. one q m (l + b) * g b) ≡ 0 = pick-out g l q m n (omega arith) in
    let now : one q m (l + n) * g n ≡ m * g n = ap (λ (x : ℕ). x * g n) (one-here q m (l + n) here) in
    let same : m * g n ≡ m * g k = ap (λ (x : ℕ). m * g x) (sym last) in
    omega arith)
    (λ (off : k ≡ n → ⊥).
    let before : sum_below n (λ b. one q m (l + b) * g b) ≡ m * g k = pick-in g l q m n k at (omega arith) in
    let far : q ≡ l + n → ⊥ = λ z. off (omega arith) in
    let now : one q m (l + n) * g n ≡ 0 = ap (λ (x : ℕ). x * g n) (one-off q m (l + n) far) ∙ omega arith in
    omega arith)
    (cases_eq k n)

-- ---- all pairs
distribute : (a b x : ℕ) → (a + b) * x ≡ a * x + b * x
distribute a b x = omega arith

-- by the masses at the ticks from l on, where no value is read below c
pub by-ticks : (f : ℕ → ℕ) (c l p floor : ℕ) (ps : List (ℕ × ℕ)) → RisesFrom floor ps → l ≤ suc floor → 1 ≤ p → ((u : ℕ) → u < c → f u ≡ 0)
    → sum_below p (λ b. mass_at (l + b) ps * f (c + (p - 1 - b))) ≡ weighed f (p + l - 1 + c) ps
by-ticks f c l p floor [] r low some none = sum_below-zero p (λ b. 0 * f (c + (p - 1 - b))) (λ b less. omega arith)
by-ticks f c l p floor (pair ∷ ps) r low some none =
    let q : ℕ = pair.0 in
    let m : ℕ = pair.1 in
    let t : ℕ = p + l - 1 + c in
    let g : ℕ → ℕ = λ b. f (c + (p - 1 - b)) in
    let rest : sum_below p (λ b. mass_at (l + b) ps * g b) ≡ weighed f t ps = by-ticks f c l p q ps r.2 (omega (arith, r.0)) some none in
    let split : sum_below p (λ b. mass_at (l + b) (pair ∷ ps) * g b) ≡ sum_below p (λ b. one q m (l + b) * g b + mass_at (l + b) ps * g b) =
    sum_below-same p (λ b. mass_at (l + b) (pair ∷ ps) * g b) (λ b. one q m (l + b) * g b + mass_at (l + b) ps * g b)
    (λ b less. ap (λ (x : ℕ). x * g b) (mass_at-cons (l + b) pair ps) ∙ distribute (one q m (l + b)) (mass_at (l + b) ps) (g b)) in
    let parts : sum_below p (λ b. one q m (l + b) * g b + mass_at (l + b) ps * g b) ≡ sum_below p (λ b. one q m (l + b) * g b) + sum_below p (λ b. mass_at (l + b) ps * g b) =
    sum_below-plus p (λ b. one q m (l + b) * g b) (λ b. mass_at (l + b) ps * g b) in
    ⊎_elim
    (λ (near : q < l + p).
    let k : ℕ = q - l in
    let at : q ≡ l + (q - l) = omega (arith, r.0) in
    let less : q - l < p = omega (arith, r.0) in
    let first : sum_below p (λ b. one q m (l + b) * g b) ≡ m * g (q - l) = pick-in g l q m p (q - l) at less in
    let inside : q ≤ t = omega arith in
    let place : c + (p - 1 - (q - l)) ≡ t - q = omega (arith, r.0) in
    let value : m * g (q - l) ≡ m * f (t - q) = ap (λ (u : ℕ). m * f u) place in
    let step : weighed f t (pair ∷ ps) ≡ m * f (t - q) + weighed f t ps = weighed-in f t pair ps inside in
    omega arith)
    (λ (far : l + p ≤ q).
    let first : sum_below p (λ b. one q m (l + b) * g b) ≡ 0 = pick-out g l q m p far in
    ⊎_elim
    (λ (out : t < q).
    let step : weighed f t (pair ∷ ps) ≡ weighed f t ps = weighed-out f t pair ps out in
    omega arith)
    (λ (inside : q ≤ t).
    let early : t - q < c = omega arith in
    let nothing : m * f (t - q) ≡ 0 = ap (λ (x : ℕ). m * x) (none (t - q) early) ∙ omega arith in
    let step : weighed f t (pair ∷ ps) ≡ m * f (t - q) + weighed f t ps = weighed-in f t pair ps inside in
    omega arith)
    (cases_lt t q))
    (cases_lt q (l + p))

-- before the first value there is nothing
pub before-first : (f : ℕ → ℕ) (c t floor : ℕ) (ps : List (ℕ × ℕ)) → RisesFrom floor ps → t ≤ floor + c → ((u : ℕ) → u < c → f u ≡ 0) → weighed f t ps ≡ 0
before-first f c t floor [] r early none = refl
before-first f c t floor (pair ∷ ps) r early none =
    let rest : weighed f t ps ≡ 0 = before-first f c t pair.0 ps r.2 (omega (arith, r.0)) none in
    ⊎_elim
    (λ (out : t < pair.0). weighed-out f t pair ps out ∙ rest)
    (λ (inside : pair.0 ≤ t).
    let nothing : pair.1 * f (t - pair.0) ≡ 0 = ap (λ (x : ℕ). pair.1 * x) (none (t - pair.0) (omega (arith, r.0))) ∙ omega arith in
    let step : weighed f t (pair ∷ ps) ≡ pair.1 * f (t - pair.0) + weighed f t ps = weighed-in f t pair ps inside in
    omega arith)
    (cases_lt t pair.0)

-- ---- the kernel
mass-past : (t : ℕ) (ps : List (ℕ × ℕ)) → greatest_tick ps < t → mass_at t ps ≡ 0
mass-past t [] h = refl
mass-past t (p ∷ ps) h =
    let off : p.0 ≡ t → ⊥ = λ z. omega arith in
    let none : cond (nat_eq p.0 t) p.1 0 ≡ 0 = rw (ne_eqb p.0 t off) refl in
    let rest : mass_at t ps ≡ 0 = mass-past t ps (omega arith) in
    omega (arith, mass_at-cons t p ps)

kernel-at : (time : List (ℕ × ℕ)) (len b : ℕ) → b < len → slice_index (kernel_of len time) b ≡ mass_at (least_tick time + b) time
kernel-at time len b less =
    let f : ℕ → ℕ = λ b. mass_at (least_tick time + b) time in
    ⊎_elim
    (λ (inner : b < span time).
    let inside : b < min (span time) len = omega arith in
    let place : 0 + b ≡ b = omega arith in
    get_or-map-range_with_len f 0 (min (span time) len) b b 0 inside place)
    (λ (past : span time ≤ b).
    let long : length (kernel_of len time) ≡ min (span time) len = length-map-range_with_len f 0 (min (span time) len) in
    let none : slice_index (kernel_of len time) b ≡ 0 = get_or-eq_default (kernel_of len time) 0 (let z : length (kernel_of len time) ≤ b = omega arith in z) in
    none ∙ sym (mass-past (least_tick time + b) time (omega arith)))
    (cases_lt b (span time))

-- a time rises from just below its least tick
pub rises-least : (time : List (ℕ × ℕ)) → IsTime time → RisesFrom (least_tick time - 1) time
rises-least [] r = tt
rises-least (p ∷ ps) r = (omega (arith, r.0), r.1, r.2)

-- ---- the two agree
pub fed-sum : (f : ℕ → ℕ) (base : ℕ) (time : List (ℕ × ℕ)) (state : SummerState) (p : ℕ) → IsTime time → IsFed state time base f → 1 ≤ p → p ≤ length state.values
    → plain state.kernel state.values p ≡ weighed f (p + least_tick time - 1 + base) time
fed-sum f base time state p r fed some known =
    sum_below-same p (λ b. slice_index state.kernel b * slice_index state.values (p - 1 - b)) (λ b. mass_at (least_tick time + b) time * f (base + (p - 1 - b)))
    (λ b less.
    let mass : slice_index state.kernel b ≡ mass_at (least_tick time + b) time = ap (λ (k : List ℕ). slice_index k b) fed.kernel ∙ kernel-at time (length state.values + state.room) b (omega arith) in
    let value : slice_index state.values (p - 1 - b) ≡ f (base + (p - 1 - b)) = fed.values (p - 1 - b) (omega arith) in
    ap (λ (x : ℕ). x * slice_index state.values (p - 1 - b)) mass ∙ ap (λ (x : ℕ). mass_at (least_tick time + b) time * x) value)
    ∙ by-ticks f base (least_tick time) p (least_tick time - 1) time (rises-least time r) (omega arith) some fed.below

pub fed-before : (f : ℕ → ℕ) (base t : ℕ) (time : List (ℕ × ℕ)) (state : SummerState) → IsTime time → IsFed state time base f → t < least_tick time + base → weighed f t time ≡ 0
fed-before f base t time state r fed early = before-first f base t (least_tick time - 1) time (rises-least time r) (omega arith) fed.below

-- the sum of a summer at a budget
pub fed-at : (f : ℕ → ℕ) (base least t p sum : ℕ) (time : List (ℕ × ℕ)) (state : SummerState) → IsTime time → least_tick time ≡ least → IsFed state time base f → 1 ≤ p → p + least + base ≡ t + 1 → p ≤ length state.values
    → sum ≡ plain state.kernel state.values p → sum ≡ weighed f t time
fed-at f base least t p sum time state r first fed some at known is =
    let place : p + least_tick time - 1 + base ≡ t = omega arith in
    is ∙ fed-sum f base time state p r fed some known ∙ ap (λ (u : ℕ). weighed f u time) place
