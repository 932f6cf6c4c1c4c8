-- What a histogram is built of.
use Rattle.std.proofs.Common.{ℕ, ◌≡◌, ◌<◌, ◌≤◌, Bool, true, false, cond, List, [], ◌∷◌, length, get_or, Option, None, Some, refl, sym, ◌∙◌, ap, arith, ⊎_elim, ◌==◌, nat_lt, ◌&&◌}
use Rattle.std.specs.List.{All, position, position_or_len}
use Rattle.std.specs.List.Sorted.{IsPermutation, IsNonDecreasingBy}
use Rattle.std.proofs.lemmas.Bool.{true≢false, cases_lt, lt-ltb, le-ltb, ltb-true, ltb-false, and_cases, eqb-false}
use Rattle.std.proofs.lemmas.Option.{none-some}
use Rattle.std.proofs.lemmas.List.Elements.{All-filter, filter_passes}
use Rattle.std.proofs.lemmas.List.Sums.{length-filter, count_by-le-length, fails_before_first, passes_at_first, position_or_len_is}
use Rattle.std.proofs.lemmas.List.Sorted.{All-permutation, sum_by-IsPermutation}
use Rattle.sota_hist.specs.Time.{IsTime, total}
use Rattle.sota_units.specs.Memory.{IsFault}
use Rattle.sota_hist.specs.Build.{positive, time_of, zero_tick, repeated_tick, tick_fault, hist_fault, is_shortage}
use Rattle.sota_hist.specs.declared.fault.HistFault.{HistFault}
use Rattle.sota_hist.specs.declared.fault.HistFault.TheVariants.{ZeroTick, RepeatedTick, Sum, NoMemory}
use Rattle.std.specs.Option.{option_map, option_or}
use Rattle.sota_hist.proofs.Ticks.{total-cons}
use Rattle.sota_hist.proofs.Repeats.{IsChance, repeated-permutation, repeated_least, once_from_none, time_from_order}
use Rattle.sota_hist.proofs.Order.{rising-is, rising-permutes, rising-rises}

-- dropping masses of 0 leaves the sum
pub total-positive : (ps : List (ℕ × ℕ)) → total (positive ps) ≡ total ps
total-positive [] = refl
total-positive (p ∷ ps) =
    ⊎_elim
    (λ (some : 0 < p.1). rw (lt-ltb 0 p.1 some) (omega (arith, total-cons p (positive ps), total-cons p ps, total-positive ps)))
    (λ (none : p.1 ≤ 0). rw (le-ltb 0 p.1 none) (omega (arith, total-cons p ps, total-positive ps)))
    (cases_lt 0 p.1)

none_passes : {X : Type 0} (p : X → Bool) (xs : List X) (b : Bool) → nat_lt (position_or_len p xs) (length xs) ≡ b → cond b (Some (position_or_len p xs)) None ≡ None → (k : ℕ) (d : X) → k < length xs → p (get_or xs k d) ≡ false
none_passes p xs true is none k d h = absurd (none-some (position_or_len p xs) (sym none))
none_passes p xs false is none k d h = fails_before_first p xs k d (omega (arith, ltb-false (position_or_len p xs) (length xs) is))

chance_kept : (p : ℕ × ℕ) → ((p.0 == 0) && nat_lt 0 p.1) ≡ false → nat_lt 0 p.1 ≡ true → IsChance p
chance_kept p fails some =
    let mass : 0 < p.1 = ltb-true 0 p.1 some in
    ⊎_elim
    (λ (other : (p.0 == 0) ≡ false). (⊎_elim (λ (l : 0 < p.0). l) (λ (z : p.0 ≤ 0). absurd (eqb-false p.0 0 other (omega arith))) (cases_lt 0 p.0), mass))
    (λ (zero_mass : nat_lt 0 p.1 ≡ false). let none : p.1 ≤ 0 = ltb-false 0 p.1 zero_mass in absurd (omega arith))
    (and_cases (p.0 == 0) (nat_lt 0 p.1) fails)

-- where no pair of positive mass stands at tick 0, what is kept are chances
pub chances : (ps : List (ℕ × ℕ)) → zero_tick ps ≡ None → All IsChance (positive ps)
chances ps none = λ k d h.
    chance_kept (get_or (positive ps) k d)
    (All-filter (λ (p : ℕ × ℕ). nat_lt 0 p.1) (λ (p : ℕ × ℕ). ((p.0 == 0) && nat_lt 0 p.1) ≡ false) ps
    (none_passes (λ (p : ℕ × ℕ). (p.0 == 0) && nat_lt 0 p.1) ps (nat_lt (position_or_len (λ (p : ℕ × ℕ). (p.0 == 0) && nat_lt 0 p.1) ps) (length ps)) refl none) k d h)
    (filter_passes (λ (p : ℕ × ℕ). nat_lt 0 p.1) ps k d h)

-- the pairs that were kept and put in order are the time
pub record IsBuilt (ps sorted : List (ℕ × ℕ)) : Type 0 where
  pub valid : IsTime sorted
  pub is : sorted ≡ time_of ps

pub built : (ps sorted : List (ℕ × ℕ)) → zero_tick ps ≡ None → IsPermutation (positive ps) sorted → IsNonDecreasingBy (λ p. p.0) sorted → repeated_tick sorted ≡ None → IsBuilt ps sorted
built ps sorted no_zero moved ordered once =
    let good : All IsChance (positive ps) = chances ps no_zero in
    let valid : IsTime sorted = time_from_order sorted ordered once (All-permutation IsChance (positive ps) sorted moved good) in
    let few = once_from_none (positive ps) (repeated_tick (positive ps)) (sym (repeated-permutation (positive ps) sorted moved) ∙ once) (repeated_least (positive ps)) in
    record { valid = valid; is = rising-is (positive ps) sorted moved valid few good }

pub total-sorted : (ps sorted : List (ℕ × ℕ)) → IsPermutation (positive ps) sorted → total sorted ≡ total ps
total-sorted ps sorted moved = sum_by-IsPermutation (λ (p : ℕ × ℕ). p.1) (positive ps) sorted moved ∙ total-positive ps

-- ---- the first element that passes
position_at : {X : Type 0} (p : X → Bool) (xs : List X) (i : ℕ) → position_or_len p xs ≡ i → i < length xs → Some i ≡ position p xs
position_at p xs i is below = rw (is, lt-ltb i (length xs) below) refl

pub position_found : {X : Type 0} (p : X → Bool) (xs : List X) (i : ℕ) (x : X) → i < length xs → ((k : ℕ) (d : X) → k < i → p (get_or xs k d) ≡ false) → x ≡ get_or xs i x → p x ≡ true → Some i ≡ position p xs
position_found p xs i x below earlier is passes =
    position_at p xs i (position_or_len_is p xs i x (omega arith) (λ k h. earlier k x h) (λ _. ap p (sym is) ∙ passes)) below

no_place : {X : Type 0} (p : X → Bool) (xs : List X) (d : X) (b : Bool) → nat_lt (position_or_len p xs) (length xs) ≡ b → ((k : ℕ) → k < length xs → p (get_or xs k d) ≡ false) → None ≡ cond b (Some (position_or_len p xs)) None
no_place p xs d false is fails = refl
no_place p xs d true is fails =
    let below : position_or_len p xs < length xs = ltb-true (position_or_len p xs) (length xs) is in
    absurd (true≢false (sym (passes_at_first p xs d below) ∙ fails (position_or_len p xs) below))

pub position_missed : {X : Type 0} (p : X → Bool) (xs : List X) (i : ℕ) → length xs ≤ i → ((k : ℕ) (d : X) → k < i → p (get_or xs k d) ≡ false) → None ≡ position p xs
position_missed p [] i done fails = refl
position_missed p (x ∷ xs) i done fails =
    no_place p (x ∷ xs) x (nat_lt (position_or_len p (x ∷ xs)) (length (x ∷ xs))) refl (λ k h. fails k x (omega arith))

-- ---- which fault it is
pub repeated-fault : (tick : ℕ) (ps sorted : List (ℕ × ℕ)) → zero_tick ps ≡ None
    → IsPermutation (positive ps) sorted → Some tick ≡ repeated_tick sorted
    → tick_fault ps ≡ Some (RepeatedTick tick)
repeated-fault tick ps sorted no_zero moved is =
    rw (no_zero, sym (repeated-permutation (positive ps) sorted moved) ∙ sym is) refl

pub ticks-right : (ps sorted : List (ℕ × ℕ)) → zero_tick ps ≡ None
    → IsPermutation (positive ps) sorted → None ≡ repeated_tick sorted → tick_fault ps ≡ None
ticks-right ps sorted no_zero moved once =
    rw (no_zero, sym (repeated-permutation (positive ps) sorted moved) ∙ sym once) refl

tick_fault-first : (tick rest : Option HistFault) (fault : HistFault) → tick ≡ Some fault
    → option_or tick rest ≡ Some fault
tick_fault-first tick rest fault is = rw is refl

-- a wrong tick decides, whatever the total
pub hist_fault-tick : (fits : ℕ → Bool) (ps : List (ℕ × ℕ)) (fault : HistFault)
    → IsFault is_shortage (tick_fault ps) fault → IsFault is_shortage (hist_fault fits ps) fault
hist_fault-tick fits ps (ZeroTick place) is = tick_fault-first (tick_fault ps) _ _ is
hist_fault-tick fits ps (RepeatedTick tick) is = tick_fault-first (tick_fault ps) _ _ is
hist_fault-tick fits ps (Sum sum) is = tick_fault-first (tick_fault ps) _ _ is
hist_fault-tick fits ps NoMemory is = tt

pub hist_fault-sum : (fits : ℕ → Bool) (ps : List (ℕ × ℕ)) (sum : ℕ) → tick_fault ps ≡ None
    → sum ≡ total ps → fits sum ≡ false → hist_fault fits ps ≡ Some (Sum sum)
hist_fault-sum fits ps sum none is fails = rw (none, ← is, fails) refl

pub hist_fault-none : (fits : ℕ → Bool) (ps : List (ℕ × ℕ)) (sum : ℕ) → tick_fault ps ≡ None
    → sum ≡ total ps → fits sum ≡ true → hist_fault fits ps ≡ None
hist_fault-none fits ps sum none is passes = rw (none, ← is, passes) refl

pub length-positive : (ps : List (ℕ × ℕ)) → length (positive ps) ≤ length ps
length-positive ps = omega (arith, length-filter (λ (p : ℕ × ℕ). nat_lt 0 p.1) ps, count_by-le-length (λ (p : ℕ × ℕ). nat_lt 0 p.1) ps)

-- ---- what no fault says
no_tick_fault : (z r : Option ℕ)
    → option_or (option_map (λ k. ZeroTick k) z) (option_map (λ t. RepeatedTick t) r) ≡ None
    → (z ≡ None) × (r ≡ None)
no_tick_fault None None none = (refl, refl)
no_tick_fault None (Some tick) none = absurd (none-some (RepeatedTick tick) (sym none))
no_tick_fault (Some place) r none = absurd (none-some (ZeroTick place) (sym none))

no_fault : (tick : Option HistFault) (fits : Bool) (sum : ℕ)
    → option_or tick (cond fits None (Some (Sum sum))) ≡ None → (tick ≡ None) × (fits ≡ true)
no_fault None true sum none = (refl, refl)
no_fault None false sum none = absurd (none-some (Sum sum) (sym none))
no_fault (Some fault) fits sum none = absurd (none-some fault (sym none))

-- pairs in which nothing is wrong
pub time-from_no_fault : (fits : ℕ → Bool) (ps : List (ℕ × ℕ)) → hist_fault fits ps ≡ None
    → IsTime (time_of ps) × (total (time_of ps) ≡ total ps) × (fits (total ps) ≡ true)
time-from_no_fault fits ps none =
    let parts = no_fault (tick_fault ps) (fits (total ps)) (total ps) none in
    let right = no_tick_fault (zero_tick ps) (repeated_tick (positive ps)) parts.0 in
    let few = once_from_none (positive ps) (repeated_tick (positive ps)) right.1
    (repeated_least (positive ps)) in (
      rising-rises (positive ps) few (chances ps right.0),
      total-sorted ps (time_of ps) (rising-permutes (positive ps)),
      parts.1,
    )
