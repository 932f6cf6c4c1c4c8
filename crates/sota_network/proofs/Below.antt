use Rattle.std.proofs.Common.{ℕ, zero, suc, true, false, ◌≡◌, ◌≢◌, ◌+◌, ◌-◌, ◌<◌, ◌≤◌, List, [], ◌∷◌, get_or, slice_get, Some, refl, sym, ◌∙◌, arith, ⊎_elim, subst}
use Rattle.std.specs.List.{All}
use Rattle.std.proofs.lemmas.List.Elements.{All-head, All-tail}
use Rattle.std.proofs.lemmas.Bool.{cases_Bool, cases_eq, cases_lt}
use Rattle.sota_hist.specs.Time.{RisesFrom, is_closed, least_tick}
use Rattle.sota_network.specs.Network.{Net, IsNet, IsArc, arc_at}
use Rattle.sota_network.specs.Grid.{weighed, plain_sum, best_sum, hi}
use Rattle.sota_network.specs.Walks.{Walk, empty, step}
use Rattle.sota_units.specs.Rounding.{ceiling_by}
use Rattle.sota_network.proofs.Sums.{weighed-in, weighed-out}
use Rattle.sota_network.proofs.Best.{best-attained}
use Rattle.sota_network.proofs.Recursion.{arc-valid}
use Rattle.sota_network.proofs.Outward.{hi-elsewhere}
use Rattle.sota_network.proofs.Gap.{ceiling-le}

-- each tick is above the floor
pub least-le : (floor : ℕ) (ps : List (ℕ × ℕ)) → RisesFrom floor ps → All (λ (p : ℕ × ℕ). floor < p.0) ps
least-le floor [] r k d h = absurd (omega arith)
least-le floor (p ∷ ps) r zero d h = r.0
least-le floor (p ∷ ps) r (suc k) d h =
    let more : p.0 < (get_or ps k d).0 = least-le p.0 ps r.2 k d (omega arith) in
    omega (arith, r.0)

-- the first tick is the least
pub least-first : (floor : ℕ) (ps : List (ℕ × ℕ)) → RisesFrom floor ps → All (λ (p : ℕ × ℕ). least_tick ps ≤ p.0) ps
least-first floor [] r k d h = absurd (omega arith)
least-first floor (p ∷ ps) r zero d h = omega arith
least-first floor (p ∷ ps) r (suc k) d h =
    let more : p.0 < (get_or ps k d).0 = least-le p.0 ps r.2 k d (omega arith) in
    omega arith

-- what has a pair is open
pub paired-open : (ps : List (ℕ × ℕ)) (k : ℕ) (p : ℕ × ℕ) → slice_get ps k ≡ Some p → is_closed ps ≡ false
paired-open [] k p is = cc
paired-open (q ∷ ps) k p is = refl

-- values that are 0 at what each pair leaves make the sum 0
weighed-zero : (v : ℕ → ℕ) (t : ℕ) (ps : List (ℕ × ℕ)) → All (λ (p : ℕ × ℕ). p.0 ≤ t → v (t - p.0) ≡ 0) ps → weighed v t ps ≡ 0
weighed-zero v t [] none = refl
weighed-zero v t (p ∷ ps) none =
    let more : weighed v t ps ≡ 0 = weighed-zero v t ps (All-tail (λ (q : ℕ × ℕ). q.0 ≤ t → v (t - q.0) ≡ 0) p ps none) in
    ⊎_elim
    (λ (out : t < p.0). weighed-out v t p ps out ∙ more)
    (λ (inside : p.0 ≤ t).
    let here : v (t - p.0) ≡ 0 = All-head (λ (q : ℕ × ℕ). q.0 ≤ t → v (t - q.0) ≡ 0) p ps none inside in
    weighed-in v t p ps inside ∙ (rw (here, more) (omega arith)))
    (cases_lt t p.0)

-- a closed arc is worth nothing
weighed-closed : (v : ℕ → ℕ) (t : ℕ) (ps : List (ℕ × ℕ)) → is_closed ps ≡ true → weighed v t ps ≡ 0
weighed-closed v t [] closed = refl
weighed-closed v t (p ∷ ps) closed = cc

module _ (net : Net) (valid : IsNet net) (dest : ℕ) where
  -- below every walk's sum the values are 0
  zero-below : (k i t : ℕ) → t < k → ((n : ℕ) → Walk net dest i dest n → t < n) → hi net dest i t ≡ 0
  zero-below zero i t h far = absurd (omega arith)
  zero-below (suc k) i t h far =
      ⊎_elim
      (λ (at : i ≡ dest).
      let none : t < 0 = far 0 (subst (λ (j : ℕ). Walk net dest j dest 0) (sym at) empty) in
      absurd (omega arith))
      (λ (off : i ≡ dest → ⊥).
      ⊎_elim
      (λ (positive : 0 < best_sum net (hi net dest) i t).
      let found = best-attained (λ a. plain_sum a (hi net dest) t) i net.arcs positive in
      let a = found.1 in
      let number : arc_at net (suc found.0) ≡ Some a = found.2 in
      let is : IsArc net a = arc-valid net valid (suc found.0) a number in
      let none : weighed (hi net dest a.head) t a.time ≡ 0 =
      ⊎_elim
      (λ (closed : is_closed a.time ≡ true). weighed-closed (hi net dest a.head) t a.time closed)
      (λ (opened : is_closed a.time ≡ false).
      weighed-zero (hi net dest a.head) t a.time
      (λ m d inside le.
      let p : ℕ × ℕ = get_or a.time m d in
      let above : 0 < p.0 = least-le 0 a.time is.time m d inside in
      let first : least_tick a.time ≤ p.0 = least-first 0 a.time is.time m d inside in
      zero-below k a.head (t - p.0) (omega arith)
      (λ n walk.
      let leaves : a.tail ≢ dest = λ e. off (sym found.3 ∙ e) in
      let longer : Walk net dest i dest (least_tick a.time + n) =
      subst (λ (j : ℕ). Walk net dest j dest (least_tick a.time + n)) found.3
      (step (suc found.0) a number leaves opened walk) in
      let limit : t < least_tick a.time + n = far (least_tick a.time + n) longer in
      omega arith)))
      (cases_Bool (is_closed a.time)) in
      absurd (omega (arith, found.4, none)))
      (λ (nothing : best_sum net (hi net dest) i t ≤ 0).
      let small : ceiling_by net.scale (best_sum net (hi net dest) i t) ≤ 0 = ceiling-le net.scale (best_sum net (hi net dest) i t) 0 valid.scale (omega arith) in
      hi-elsewhere net valid dest i t off ∙ omega arith)
      (cases_lt 0 (best_sum net (hi net dest) i t)))
      (cases_eq i dest)

  pub zero-at : (i t : ℕ) → ((n : ℕ) → Walk net dest i dest n → t < n) → hi net dest i t ≡ 0
  zero-at i t far = zero-below (suc t) i t (omega arith) far
