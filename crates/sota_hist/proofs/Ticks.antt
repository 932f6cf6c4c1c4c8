-- Lists of pairs whose ticks rise.
use Rattle.std.proofs.Common.{ℕ, zero, suc, ◌≡◌, ◌+◌, ◌-◌, ◌<◌, ◌≤◌, Bool, true, false, cond, max, List, [], ◌∷◌, length, get_or, take, refl, sym, ◌∙◌, ap, arith, inl, inr, ⊎_elim, nat_eq}
use Rattle.std.specs.List.{filter}
use Rattle.std.specs.List.Sorted.{IsNonDecreasingBy, IsPartitionPoint}
use Rattle.std.proofs.lemmas.List.Sums.{sum_by-cons}
use Rattle.std.proofs.lemmas.Bool.{true≢false, cases_eq, cases_lt, le-leb, lt-leb, le-ltb, eq-eqb, ne_eqb}
use Rattle.sota_hist.specs.Time.{RisesFrom, IsTime, total, ticks, within, before, mass_at, greatest_tick, is_closed}
use Rattle.sota_hist.proofs.Least.{Among}

pub total-cons : (p : ℕ × ℕ) (ps : List (ℕ × ℕ)) → total (p ∷ ps) ≡ p.1 + total ps
total-cons p ps = sum_by-cons (λ (q : ℕ × ℕ). q.1) p ps

pub rises_lower : (f g : ℕ) (ps : List (ℕ × ℕ)) → g ≤ f → RisesFrom f ps → RisesFrom g ps
rises_lower f g [] h r = tt
rises_lower f g (p ∷ ps) h r = (omega (arith, r.0), r.1, r.2)

total-chosen : (b : Bool) (p : ℕ × ℕ) (ps : List (ℕ × ℕ)) → total (cond b (p ∷ ps) ps) ≡ cond b p.1 0 + total ps
total-chosen true p ps = total-cons p ps
total-chosen false p ps = omega arith

-- a filter by a test of the tick
pub total-filter : (test : ℕ → Bool) (p : ℕ × ℕ) (ps : List (ℕ × ℕ)) → total (filter (λ q. test q.0) (p ∷ ps)) ≡ cond (test p.0) p.1 0 + total (filter (λ q. test q.0) ps)
total-filter test p ps = total-chosen (test p.0) p (filter (λ q. test q.0) ps)

-- ---- the mass at a tick
pub mass_at-here : (p : ℕ × ℕ) (ps : List (ℕ × ℕ)) → mass_at p.0 (p ∷ ps) ≡ p.1 + mass_at p.0 ps
mass_at-here p ps = total-filter (λ t. nat_eq t p.0) p ps ∙ (rw (eq-eqb p.0 p.0 refl) refl)

pub mass_at-other : (t : ℕ) (p : ℕ × ℕ) (ps : List (ℕ × ℕ)) → (p.0 ≡ t → ⊥) → mass_at t (p ∷ ps) ≡ mass_at t ps
mass_at-other t p ps apart = total-filter (λ u. nat_eq u t) p ps ∙ (rw (ne_eqb p.0 t apart) (omega arith))

pub mass_at-cons : (t : ℕ) (p : ℕ × ℕ) (ps : List (ℕ × ℕ)) → mass_at t (p ∷ ps) ≡ cond (nat_eq p.0 t) p.1 0 + mass_at t ps
mass_at-cons t p ps = total-filter (λ u. nat_eq u t) p ps

pub mass_at_below : (floor t : ℕ) (ps : List (ℕ × ℕ)) → RisesFrom floor ps → t ≤ floor → mass_at t ps ≡ 0
mass_at_below floor t [] r low = refl
mass_at_below floor t (p ∷ ps) r low =
    let apart : p.0 ≡ t → ⊥ = λ e. omega (arith, r.0) in
    mass_at-other t p ps apart ∙ mass_at_below p.0 t ps r.2 (omega (arith, r.0))

-- a tick with a mass is one of the list
pub mass_among : (t : ℕ) (ps : List (ℕ × ℕ)) → (mass_at t ps ≡ 0 → ⊥) → Among t (ticks ps)
mass_among t [] some = some refl
mass_among t (p ∷ ps) some =
    ⊎_elim
    (λ (e : p.0 ≡ t). inl e)
    (λ (apart : p.0 ≡ t → ⊥). inr (mass_among t ps (λ none. some (mass_at-other t p ps apart ∙ none))))
    (cases_eq p.0 t)

pub among_above : (floor t : ℕ) (ps : List (ℕ × ℕ)) → RisesFrom floor ps → Among t (ticks ps) → floor < t
among_above floor t [] r a = absurd a
among_above floor t (p ∷ ps) r a =
    ⊎_elim
    (λ (e : p.0 ≡ t). omega (arith, r.0))
    (λ (b : Among t (ticks ps)). let h : p.0 < t = among_above p.0 t ps r.2 b in omega (arith, r.0))
    a

-- ---- the pairs up to a tick and below it
pub within-in : (t : ℕ) (p : ℕ × ℕ) (ps : List (ℕ × ℕ)) → p.0 ≤ t → within t (p ∷ ps) ≡ p ∷ within t ps
within-in t p ps h = rw (le-leb p.0 t h) refl

pub within_none : (floor t : ℕ) (ps : List (ℕ × ℕ)) → RisesFrom floor ps → t ≤ floor → within t ps ≡ []
within_none floor t [] r low = refl
within_none floor t (p ∷ ps) r low =
    let late : t < p.0 = omega (arith, r.0) in
    rw (lt-leb p.0 t late) (within_none p.0 t ps r.2 (omega (arith, r.0)))

pub before_none : (floor t : ℕ) (ps : List (ℕ × ℕ)) → RisesFrom floor ps → t ≤ suc floor → before t ps ≡ []
before_none floor t [] r low = refl
before_none floor t (p ∷ ps) r low =
    let late : t ≤ p.0 = omega (arith, r.0) in
    rw (le-ltb p.0 t late) (before_none p.0 t ps r.2 (omega (arith, r.0)))

-- ---- the last pair
pub greatest_tick_last : (floor : ℕ) (p : ℕ × ℕ) (ps : List (ℕ × ℕ)) (d : ℕ × ℕ) → RisesFrom floor (p ∷ ps) → (greatest_tick (p ∷ ps) ≡ (get_or (p ∷ ps) (length ps) d).0) × (floor < greatest_tick (p ∷ ps))
greatest_tick_last floor p [] d r = (omega arith, omega (arith, r.0))
greatest_tick_last floor p (q ∷ ps) d r =
    let rest = greatest_tick_last p.0 q ps d r.2 in
    let top : max p.0 (greatest_tick (q ∷ ps)) ≡ greatest_tick (q ∷ ps) = omega (arith, rest.1) in
    (top ∙ rest.0, omega (arith, rest.1, r.0))

-- an open histogram has a first pair
pub some_from_open : (ps : List (ℕ × ℕ)) → is_closed ps ≡ false → 0 < length ps
some_from_open [] open_ = absurd (true≢false open_)
some_from_open (p ∷ ps) open_ = omega arith

-- ---- the order by index, as std's searches have it
pub rises_at : (floor : ℕ) (ps : List (ℕ × ℕ)) (k : ℕ) (d : ℕ × ℕ) → RisesFrom floor ps → k < length ps → (floor < (get_or ps k d).0) × (1 ≤ (get_or ps k d).1)
rises_at floor [] k d r h = absurd (omega arith)
rises_at floor (p ∷ ps) zero d r h = (r.0, r.1)
rises_at floor (p ∷ ps) (suc k) d r h =
    let rest = rises_at p.0 ps k d r.2 (let below : k < length ps = omega arith in below) in
    (omega (arith, r.0, rest.0), rest.1)

pub rises_ordered : (floor : ℕ) (ps : List (ℕ × ℕ)) → RisesFrom floor ps → IsNonDecreasingBy (λ p. p.0) ps
rises_ordered floor [] r i j d low high = absurd (omega arith)
rises_ordered floor (p ∷ ps) r zero zero d low high = omega arith
rises_ordered floor (p ∷ ps) r zero (suc j) d low high = omega (arith, (rises_at p.0 ps j d r.2 (let below : j < length ps = omega arith in below)).0)
rises_ordered floor (p ∷ ps) r (suc i) zero d low high = absurd (omega arith)
rises_ordered floor (p ∷ ps) r (suc i) (suc j) d low high = rises_ordered p.0 ps r.2 i j d (omega arith) (let below : j < length ps = omega arith in below)

-- a list whose first i elements pass and whose others fail
pub filter_split : {X : Type 0} (test : X → Bool) (xs : List X) (i : ℕ) → IsPartitionPoint (λ x. test x ≡ true) (λ x. test x ≡ false) xs i → i ≤ length xs → take i xs ≡ filter test xs
filter_split test [] zero point h = refl
filter_split test [] (suc i) point h = refl
filter_split test (x ∷ xs) zero point h =
    rw (let fails : test x ≡ false = point.1 0 x (omega arith) (omega arith) in fails)
    (filter_split test xs zero ((λ k d low high. absurd (omega arith)), (λ k d low high. point.1 (suc k) d (omega arith) (omega arith))) (omega arith))
filter_split test (x ∷ xs) (suc i) point h =
    rw (let passes : test x ≡ true = point.0 0 x (omega arith) (omega arith) in passes)
    (ap (λ ys. x ∷ ys)
    (filter_split test xs i ((λ k d low high. point.0 (suc k) d (omega arith) (omega arith)), (λ k d low high. point.1 (suc k) d (omega arith) (omega arith))) (omega arith)))

-- there are at most as many pairs as masses
pub length-le-total : (floor : ℕ) (ps : List (ℕ × ℕ)) → RisesFrom floor ps → length ps ≤ total ps
length-le-total floor [] r = omega arith
length-le-total floor (p ∷ ps) r = omega (arith, length-le-total p.0 ps r.2, total-cons p ps, r.1)

-- what the reads of a histogram stand on
pub ruleset readings = (some_from_open, length-le-total)

-- the pairs within a limit rise as well
pub rises_within : (floor t : ℕ) (ps : List (ℕ × ℕ)) → RisesFrom floor ps → RisesFrom floor (within t ps)
rises_within floor t [] rises = tt
rises_within floor t (p ∷ ps) rises =
    ⊎_elim
    (λ (late : t < p.0). rw (lt-leb p.0 t late) (rises_lower p.0 floor (within t ps) (omega (arith, rises.0)) (rises_within p.0 t ps rises.2)))
    (λ (early : p.0 ≤ t). rw (le-leb p.0 t early) (rises.0, rises.1, rises_within p.0 t ps rises.2))
    (cases_lt t p.0)

-- the last pair has the greatest tick
pub last_tick : (ps : List (ℕ × ℕ)) (d : ℕ × ℕ) → IsTime ps → 1 ≤ length ps → ((get_or ps (length ps - 1) d).0 ≡ greatest_tick ps) × (1 ≤ (get_or ps (length ps - 1) d).0)
last_tick [] d r some = absurd (omega arith)
last_tick (p ∷ ps) d r some =
    let last : length (p ∷ ps) - 1 ≡ length ps = omega arith in
    let top = greatest_tick_last 0 p ps d r in
    rw last (sym top.0, rw (← top.0) (omega (arith, top.1)))
