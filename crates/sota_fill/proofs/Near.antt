-- The greatest worth of numbers, of which some below a floor were passed over.
use Rattle.std.proofs.Common.{ℕ, ◌≡◌, ◌+◌, ◌<◌, ◌≤◌, ◌⊎◌, max, nat_lt, length, get_or, take, List, Option, Some, inl, inr, refl, sym, ◌∙◌, arith, ⊎_elim, if◌then◌else◌}
use Rattle.std.proofs.lemmas.Bool.{cases_lt, lt-ltb, le-ltb}
use Rattle.sota_fill.specs.Beaten.{IsRaised}
use Rattle.sota_network.specs.Among.{AmongLaws, best_among, choice_among}

-- two numbers that are equal where one is not below the floor
abbrev pub Near : ℕ → ℕ → ℕ → Type 0
Near floor a b = (a ≡ b) ⊎ ((a < floor) × (b < floor))

near-raised : (floor a b v : ℕ) → Near floor a b → Near floor (max a v) (max b v)
near-raised floor a b v near =
    ⊎_elim
    (λ (same : a ≡ b). inl (omega arith))
    (λ (low : (a < floor) × (b < floor)).
    ⊎_elim (λ (less : v < floor). inr (omega (arith, low.0), omega (arith, low.1))) (λ (most : floor ≤ v). inl (omega (arith, low.0, low.1))) (cases_lt v floor))
    near

near-passed : (floor a b v : ℕ) → Near floor a b → v < floor → Near floor a (max b v)
near-passed floor a b v near less =
    ⊎_elim
    (λ (same : a ≡ b). ⊎_elim (λ (under : b < v). inr (omega arith, omega arith)) (λ (over : v ≤ b). inl (omega arith)) (cases_lt b v))
    (λ (low : (a < floor) × (b < floor)). inr (low.0, omega (arith, low.1)))
    near

pub near-end : (floor a b : ℕ) → Near floor a b → floor ≤ b → a ≡ b
near-end floor a b near most = ⊎_elim (λ (same : a ≡ b). same) (λ (low : (a < floor) × (b < floor)). absurd (omega (arith, low.1))) near

under-too : (floor a b : ℕ) → Near floor a b → b < floor → a < floor
under-too floor a b near less = ⊎_elim (λ (same : a ≡ b). omega arith) (λ (low : (a < floor) × (b < floor)). low.0) near

-- the first of the greatest worth, where that is not below the floor
abbrev pub NearChoice : ℕ → ℕ → Option ℕ → Option ℕ → Type 0
NearChoice floor best was is = (was ≡ is) ⊎ (best < floor)

pub choice-near-end : (floor best : ℕ) (was is : Option ℕ) → NearChoice floor best was is → floor ≤ best → was ≡ is
choice-near-end floor best was is near most = ⊎_elim (λ (same : was ≡ is). same) (λ (low : best < floor). absurd (omega arith)) near

module _ (laws : AmongLaws) where
  -- the greatest worth of one number more
  best-next : (w : ℕ → ℕ) (es : List ℕ) (k e sum : ℕ) → k < length es → e ≡ get_or es k e → sum ≡ w e → max (best_among w (take k es)) sum ≡ best_among w (take (k + 1) es)
  best-next w es k e sum h is has = laws.best_step w es k e (best_among w (take k es)) sum (max (best_among w (take k es)) sum) h is refl has refl

  -- a walk over numbers, of which one more is looked at
  pub near-step : (floor : ℕ) (w : ℕ → ℕ) (es : List ℕ) (k e old sum new : ℕ) → k < length es → e ≡ get_or es k e → sum ≡ w e → new ≡ max old sum
      → Near floor old (best_among w (take k es)) → Near floor new (best_among w (take (k + 1) es))
  near-step floor w es k e old sum new h is has more near =
      let now : max (best_among w (take k es)) sum ≡ best_among w (take (k + 1) es) = best-next w es k e sum h is has in
      rw (more, sym now) (near-raised floor old (best_among w (take k es)) sum near)

  -- or passed over
  pub near-pass : (floor : ℕ) (w : ℕ → ℕ) (es : List ℕ) (k e old sum : ℕ) → k < length es → e ≡ get_or es k e → sum ≡ w e → sum < floor
      → Near floor old (best_among w (take k es)) → Near floor old (best_among w (take (k + 1) es))
  near-pass floor w es k e old sum h is has less near =
      let now : max (best_among w (take k es)) sum ≡ best_among w (take (k + 1) es) = best-next w es k e sum h is has in
      rw (sym now) (near-passed floor old (best_among w (take k es)) sum near less)

  -- or either of these
  pub near-raise : (floor : ℕ) (w : ℕ → ℕ) (es : List ℕ) (k e old sum new : ℕ) → k < length es → e ≡ get_or es k e → sum ≡ w e → IsRaised floor old sum new
      → Near floor old (best_among w (take k es)) → Near floor new (best_among w (take (k + 1) es))
  near-raise floor w es k e old sum new h is has raised near =
      ⊎_elim
      (λ (more : new ≡ max old sum). near-step floor w es k e old sum new h is has more near)
      (λ (passed : (new ≡ old) × (sum < floor)). rw passed.0 (near-pass floor w es k e old sum h is has passed.1 near))
      raised

  -- a number that is the first above the floor
  first-above : (floor : ℕ) (w : ℕ → ℕ) (es : List ℕ) (k e old sum : ℕ) (was new : Option ℕ) → k < length es → e ≡ get_or es k e → sum ≡ w e
      → old < floor → best_among w (take k es) < floor → floor ≤ sum → new ≡ (if nat_lt old sum then Some e else was) → new ≡ choice_among w (take (k + 1) es)
  first-above floor w es k e old sum was new h is has low under most is-new =
      let chosen : new ≡ Some e = (rw (lt-ltb old sum (omega arith)) at is-new) in
      chosen
      ∙ laws.choice_step w es k e (best_among w (take k es)) sum (choice_among w (take k es)) (Some e) h is refl has refl (rw (lt-ltb (best_among w (take k es)) sum (omega arith)) refl)

  pub choice-near-step : (floor : ℕ) (w : ℕ → ℕ) (es : List ℕ) (k e old sum : ℕ) (was new : Option ℕ) → k < length es → e ≡ get_or es k e → sum ≡ w e
      → Near floor old (best_among w (take k es)) → NearChoice floor (best_among w (take k es)) was (choice_among w (take k es))
      → new ≡ (if nat_lt old sum then Some e else was) → NearChoice floor (best_among w (take (k + 1) es)) new (choice_among w (take (k + 1) es))
  choice-near-step floor w es k e old sum was new h is has near is-was is-new =
      let now : max (best_among w (take k es)) sum ≡ best_among w (take (k + 1) es) = best-next w es k e sum h is has in
      let low : best_among w (take k es) < floor → NearChoice floor (best_among w (take (k + 1) es)) new (choice_among w (take (k + 1) es)) = λ under.
      ⊎_elim
      (λ (less : sum < floor). inr (omega arith))
      (λ (most : floor ≤ sum). inl (first-above floor w es k e old sum was new h is has (under-too floor old (best_among w (take k es)) near under) under most is-new))
      (cases_lt sum floor) in
      ⊎_elim
      (λ (same : was ≡ choice_among w (take k es)).
      ⊎_elim low
      (λ (high : floor ≤ best_among w (take k es)).
      inl (laws.choice_step w es k e old sum was new h is (near-end floor old (best_among w (take k es)) near high) has same is-new))
      (cases_lt (best_among w (take k es)) floor))
      low
      is-was

  pub choice-near-pass : (floor : ℕ) (w : ℕ → ℕ) (es : List ℕ) (k e sum : ℕ) (was : Option ℕ) → k < length es → e ≡ get_or es k e → sum ≡ w e → sum < floor
      → NearChoice floor (best_among w (take k es)) was (choice_among w (take k es)) → NearChoice floor (best_among w (take (k + 1) es)) was (choice_among w (take (k + 1) es))
  choice-near-pass floor w es k e sum was h is has less is-was =
      let now : max (best_among w (take k es)) sum ≡ best_among w (take (k + 1) es) = best-next w es k e sum h is has in
      ⊎_elim
      (λ (under : best_among w (take k es) < floor). inr (omega arith))
      (λ (high : floor ≤ best_among w (take k es)).
      inl
      (choice-near-end floor (best_among w (take k es)) was (choice_among w (take k es)) is-was high
      ∙ laws.choice_step w es k e (best_among w (take k es)) sum (choice_among w (take k es)) (choice_among w (take k es)) h is refl has refl (rw (le-ltb (best_among w (take k es)) sum (omega arith)) refl)))
      (cases_lt (best_among w (take k es)) floor)
