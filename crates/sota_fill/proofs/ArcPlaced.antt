-- Values in a list, read and changed by the places of arcs.
use Rattle.std.proofs.Common.{ℕ, zero, suc, ◌≡◌, ◌+◌, ◌-◌, ◌^◌, ◌<◌, ◌≤◌, nat_lt, cond, Bool, true, false, List, [], ◌∷◌, ◌++◌, map, length, get_or, replicate, Option, None, Some, refl, sym, ◌∙◌, ap, arith, ⊎_elim}
use Rattle.std.proofs.Math.ListN.{set}
use Rattle.std.specs.Prelude.{slice_get, is_some, Box}
use Rattle.std.specs.declared.alloc.Global.{Global}
use Rattle.std.specs.Box.{box_value, with_value}
use Rattle.std.specs.List.{count_by}
use Rattle.std.proofs.lemmas.Bool.{cases_eq, cases_lt, lt-ltb, le-ltb, true≢false}
use Rattle.std.proofs.lemmas.List.{map-append, map-set, length-map, length-set, get_or-map, length-replicate, get_or-replicate, get_or_past, get_or-set_same, get_or-set_other}
use Rattle.std.proofs.lemmas.Option.{slice_get-get_or}
use Rattle.std.proofs.lemmas.List.Folds.{sum_by-replicate}
use Rattle.std.proofs.lemmas.List.Sums.{sum_by-set, count_by-le-length}
use Rattle.sota_fill.specs.ArcPlaces.{placed, ArePlaces}

lt-from : (m n : ℕ) → nat_lt m n ≡ true → m < n
lt-from m n is = ⊎_elim (λ (less : m < n). less) (λ (le : n ≤ m). absurd (true≢false (sym is ∙ le-ltb m n le))) (cases_lt m n)

le-from : (n : ℕ) → nat_lt 0 n ≡ false → n ≡ 0
le-from n is = ⊎_elim (λ (less : 0 < n). absurd (true≢false (sym (lt-ltb 0 n less) ∙ is))) (λ (le : n ≤ 0). omega arith) (cases_lt 0 n)

-- ---- one place
get-set-same : {X : Type 0} (xs : List X) (k : ℕ) (w : X) → k < length xs → slice_get (set xs k w) k ≡ Some w
get-set-same [] k w less = absurd (omega arith)
get-set-same (x ∷ xs) zero w less = refl
get-set-same (x ∷ xs) (suc k) w less = get-set-same xs k w (omega arith)

get-set-other : {X : Type 0} (xs : List X) (k m : ℕ) (w : X) → (m ≡ k → ⊥) → slice_get (set xs k w) m ≡ slice_get xs m
get-set-other [] k m w apart = refl
get-set-other (x ∷ xs) zero zero w apart = absurd (apart refl)
get-set-other (x ∷ xs) zero (suc m) w apart = refl
get-set-other (x ∷ xs) (suc k) zero w apart = refl
get-set-other (x ∷ xs) (suc k) (suc m) w apart = get-set-other xs k m w (λ same. apart (ap suc same))

get-left : {X : Type 0} (xs : List X) (w : X) (k : ℕ) → k < length xs → slice_get (xs ++ w ∷ []) k ≡ slice_get xs k
get-left [] w k less = absurd (omega arith)
get-left (x ∷ xs) w zero less = refl
get-left (x ∷ xs) w (suc k) less = get-left xs w k (omega arith)

get-last : {X : Type 0} (xs : List X) (w : X) → slice_get (xs ++ w ∷ []) (length xs) ≡ Some w
get-last [] w = refl
get-last (x ∷ xs) w = get-last xs w

get-some : {X : Type 0} (xs : List X) (k : ℕ) → k < length xs → is_some (slice_get xs k) ≡ true
get-some [] k less = absurd (omega arith)
get-some (x ∷ xs) zero less = refl
get-some (x ∷ xs) (suc k) less = get-some xs k (omega arith)

-- a place but 0 has a value
pub placed-some : {X : Type 0} (xs : List X) (p : ℕ) → p ≤ length xs → is_some (placed xs p) ≡ nat_lt 0 p
placed-some xs zero less = refl
placed-some xs (suc k) less = get-some xs k (omega arith) ∙ sym (lt-ltb 0 (suc k) (omega arith))

-- ---- the values of all arcs, in the order of their numbers
pub placed-at : {X : Type 0} (xs : List X) (ps : List ℕ) (i : ℕ) → get_or (map (placed xs) ps) i None ≡ placed xs (get_or ps i 0)
placed-at xs [] i = refl
placed-at xs (p ∷ ps) zero = refl
placed-at xs (p ∷ ps) (suc i) = placed-at xs ps i

pub placed-none : {X : Type 0} (n : ℕ) (xs : List X) → map (placed xs) (replicate n 0) ≡ replicate n None
placed-none zero xs = refl
placed-none (suc n) xs = (let rest = placed-none n xs in cc)

-- a value is replaced, which no other place names
placed-other : {X : Type 0} (xs : List X) (k : ℕ) (w : X) (p : ℕ) → (p ≡ suc k → ⊥) → placed (set xs k w) p ≡ placed xs p
placed-other xs k w zero apart = refl
placed-other xs k w (suc m) apart = get-set-other xs k m w (λ same. apart (ap suc same))

placed-still : {X : Type 0} (xs : List X) (k : ℕ) (w : X) (ps : List ℕ) → ((j : ℕ) → get_or ps j 0 ≡ suc k → ⊥) → map (placed (set xs k w)) ps ≡ map (placed xs) ps
placed-still xs k w [] apart = refl
placed-still xs k w (p ∷ ps) apart =
    let head : placed (set xs k w) p ≡ placed xs p = placed-other xs k w p (apart zero) in
    let rest : map (placed (set xs k w)) ps ≡ map (placed xs) ps = placed-still xs k w ps (λ j. apart (suc j)) in
    cc

pub placed-set : {X : Type 0} (xs : List X) (k : ℕ) (w : X) (ps : List ℕ) (i : ℕ) → k < length xs → get_or ps i 0 ≡ suc k → ((j : ℕ) → get_or ps j 0 ≡ suc k → j ≡ i)
    → map (placed (set xs k w)) ps ≡ set (map (placed xs) ps) i (Some w)
placed-set xs k w [] i less at alone = absurd (omega (arith, at))
placed-set xs k w (p ∷ ps) zero less at alone =
    let head : placed (set xs k w) p ≡ Some w = ap (placed (set xs k w)) at ∙ get-set-same xs k w less in
    let rest : map (placed (set xs k w)) ps ≡ map (placed xs) ps = placed-still xs k w ps (λ j there. let same : suc j ≡ zero = alone (suc j) there in absurd (omega arith)) in
    cc
placed-set xs k w (p ∷ ps) (suc i) less at alone =
    let head : placed (set xs k w) p ≡ placed xs p = placed-other xs k w p (λ there. let same : zero ≡ suc i = alone zero there in absurd (omega arith)) in
    let rest : map (placed (set xs k w)) ps ≡ set (map (placed xs) ps) i (Some w) = placed-set xs k w ps i less at (λ j there. let same : suc j ≡ suc i = alone (suc j) there in omega arith) in
    cc

-- a value more, and an arc whose place it is
placed-left : {X : Type 0} (xs : List X) (w : X) (p : ℕ) → p ≤ length xs → placed (xs ++ w ∷ []) p ≡ placed xs p
placed-left xs w zero less = refl
placed-left xs w (suc k) less = get-left xs w k (omega arith)

placed-more : {X : Type 0} (xs : List X) (w : X) (ps : List ℕ) → ((j : ℕ) → get_or ps j 0 ≤ length xs) → map (placed (xs ++ w ∷ [])) ps ≡ map (placed xs) ps
placed-more xs w [] within = refl
placed-more xs w (p ∷ ps) within =
    let head : placed (xs ++ w ∷ []) p ≡ placed xs p = placed-left xs w p (within zero) in
    let rest : map (placed (xs ++ w ∷ [])) ps ≡ map (placed xs) ps = placed-more xs w ps (λ j. within (suc j)) in
    cc

pub placed-put : {X : Type 0} (xs : List X) (w : X) (ps : List ℕ) (i : ℕ) → ((j : ℕ) → get_or ps j 0 ≤ length xs)
    → map (placed (xs ++ w ∷ [])) (set ps i (suc (length xs))) ≡ set (map (placed xs) ps) i (Some w)
placed-put xs w ps i within =
    let one : placed (xs ++ w ∷ []) (suc (length xs)) ≡ Some w = get-last xs w in
    let rest : map (placed (xs ++ w ∷ [])) ps ≡ map (placed xs) ps = placed-more xs w ps within in
    map-set (placed (xs ++ w ∷ [])) ps i (suc (length xs)) ∙ cc

-- ---- places
zero-at : (n i : ℕ) → ◌≡◌ {A = ℕ} (get_or (replicate n 0) i 0) 0
zero-at n i =
    ⊎_elim
    (λ (inside : i < n). get_or-replicate {A = ℕ} n i 0 0 inside)
    (λ (past : n ≤ i). get_or_past {X = ℕ} (replicate n 0) i 0 (omega (arith, past, length-replicate {A = ℕ} n 0)))
    (cases_lt i n)

pub places-first : (n : ℕ) → n < 2 ^ 32 → ArePlaces (replicate n 0) 0
places-first n few = record {
  few = omega (arith, few, length-replicate {A = ℕ} n 0);
  used = omega (arith, sum_by-replicate (λ (p : ℕ). cond (nat_lt 0 p) 1 0) n 0);
  within = λ i. omega (arith, zero-at n i);
  apart = λ i j some same. absurd (omega (arith, zero-at n i, some));
}

module _ (ps : List ℕ) (count i : ℕ) (are : ArePlaces ps count) (inside : i < length ps) (free : get_or ps i 0 ≡ 0) where
  used-more : count_by (nat_lt 0) (set ps i (suc count)) ≡ suc count
  used-more =
      let none : ◌≡◌ {A = ℕ} (cond (nat_lt 0 (get_or ps i 0)) 1 0) 0 = ap (λ (p : ℕ). cond (nat_lt 0 p) 1 0) free in
      let one : ◌≡◌ {A = ℕ} (cond (nat_lt 0 (suc count)) 1 0) 1 = ap (λ (b : Bool). cond {A = ℕ} b 1 0) (lt-ltb 0 (suc count) (omega arith)) in
      omega (arith, sum_by-set (λ (p : ℕ). cond (nat_lt 0 p) 1 0) ps i (suc count) 0 inside, none, one, are.used)

  -- there are no more values than arcs
  pub places-bound : suc count ≤ length ps
  places-bound = omega (arith, used-more, count_by-le-length (nat_lt 0) (set ps i (suc count)), length-set ps i (suc count))

  here : get_or (set ps i (suc count)) i 0 ≡ suc count
  here = get_or-set_same ps i (suc count) 0 inside

  other : (j : ℕ) → (j ≡ i → ⊥) → get_or (set ps i (suc count)) j 0 ≡ get_or ps j 0
  other j apart = get_or-set_other ps i j (suc count) 0 apart

  -- a value more, at the place of an arc that had none
  pub places-put : ArePlaces (set ps i (suc count)) (suc count)
  places-put = record {
    few = omega (arith, are.few, length-set ps i (suc count));
    used = used-more;
    within = λ j.
        ⊎_elim
        (λ (same : j ≡ i). omega (arith, here, ap (λ (n : ℕ). get_or (set ps i (suc count)) n 0) same))
        (λ (apart : j ≡ i → ⊥). omega (arith, other j apart, are.within j))
        (cases_eq j i);
    apart = λ j k some same.
        ⊎_elim
        (λ (one : j ≡ i).
        ⊎_elim
        (λ (two : k ≡ i). one ∙ sym two)
        (λ (off : k ≡ i → ⊥). absurd (omega (arith, same, here, ap (λ (n : ℕ). get_or (set ps i (suc count)) n 0) one, other k off, are.within k)))
        (cases_eq k i))
        (λ (off : j ≡ i → ⊥).
        ⊎_elim
        (λ (two : k ≡ i). absurd (omega (arith, same, here, ap (λ (n : ℕ). get_or (set ps i (suc count)) n 0) two, other j off, are.within j)))
        (λ (apart : k ≡ i → ⊥). are.apart j k (omega (arith, some, other j off)) (sym (other j off) ∙ same ∙ other k apart))
        (cases_eq k i))
        (cases_eq j i);
  }

-- ---- values in boxes, as contracts see them
abbrev pub boxed_view : {X : Type 0} → List (Box X Global) → List ℕ → List (Option X)
boxed_view bs ps = map (placed (map box_value bs)) ps

module _ {X : Type 0} (bs : List (Box X Global)) (ps : List ℕ) (view : List (Option X)) (seen : boxed_view bs ps ≡ view) (are : ArePlaces ps (length bs)) where
  pub view-long : length view ≡ length ps
  view-long = sym (ap length seen) ∙ length-map ps (placed (map box_value bs))

  -- what stands for an arc is at its place
  pub view-at : (i p : ℕ) → p ≡ get_or ps i 0 → get_or view i None ≡ placed (map box_value bs) p
  view-at i p read = ap (λ (v : List (Option X)). get_or v i None) (sym seen) ∙ placed-at (map box_value bs) ps i ∙ ap (placed (map box_value bs)) (sym read)

  pub view-within : (i p : ℕ) → p ≡ get_or ps i 0 → p ≤ length bs
  view-within i p read = omega (arith, read, are.within i)

  pub view-some : (i p : ℕ) → p ≡ get_or ps i 0 → is_some (get_or view i None) ≡ nat_lt 0 p
  view-some i p read = ap is_some (view-at i p read) ∙ placed-some (map box_value bs) p (omega (arith, view-within i p read, length-map bs box_value))

  -- an arc with a value has a place
  pub place-some : (i p : ℕ) → p ≡ get_or ps i 0 → is_some (get_or view i None) ≡ true → 0 < p
  place-some i p read has = lt-from 0 p (sym (view-some i p read) ∙ has)

  -- and one without has none
  pub place-none : (i p : ℕ) → p ≡ get_or ps i 0 → get_or view i None ≡ None → p ≡ 0
  place-none i p read none = le-from p (sym (view-some i p read) ∙ ap is_some none)

  pub view-value : (i p : ℕ) (b : Box X Global) → p ≡ get_or ps i 0 → 0 < p → b ≡ get_or bs (p - 1) b → get_or view i None ≡ Some b.value
  view-value i p b read some at =
      let next : p ≡ suc (p - 1) = omega arith in
      let inside : p - 1 < length bs = omega (arith, some, view-within i p read) in
      view-at i p read ∙ ap (placed (map box_value bs)) next ∙ slice_get-get_or (map box_value bs) (p - 1) b.value (omega (arith, inside, length-map bs box_value))
      ∙ ap Some (get_or-map box_value bs (p - 1) b b.value inside ∙ ap box_value (sym at))

  -- a value is replaced
  pub view-set : (i p : ℕ) (b : Box X Global) (w : X) → p ≡ get_or ps i 0 → 0 < p → boxed_view (set bs (p - 1) (with_value b w)) ps ≡ set view i (Some w)
  view-set i p b w read some =
      let next : get_or ps i 0 ≡ suc (p - 1) = omega (arith, read, some) in
      let inside : p - 1 < length (map box_value bs) = omega (arith, some, view-within i p read, length-map bs box_value) in
      ap (λ (xs : List X). map (placed xs) ps) (map-set box_value bs (p - 1) (with_value b w))
      ∙ placed-set (map box_value bs) (p - 1) w ps i inside next (λ j there. are.apart j i (omega (arith, there)) (there ∙ sym next)) ∙ ap (λ (v : List (Option X)). set v i (Some w)) seen

  -- a value is added
  pub view-put : (i n : ℕ) (b : Box X Global) → n ≡ length bs + 1 → boxed_view (bs ++ b ∷ []) (set ps i n) ≡ set view i (Some b.value)
  view-put i n b count =
      let xs : List X = map box_value bs in
      let last : n ≡ suc (length xs) = omega (arith, count, length-map bs box_value) in
      ap (λ (ys : List X). map (placed ys) (set ps i n)) (map-append box_value bs (b ∷ [])) ∙ ap (λ (m : ℕ). map (placed (xs ++ b.value ∷ [])) (set ps i m)) last
      ∙ placed-put xs b.value ps i (λ j. omega (arith, are.within j, length-map bs box_value)) ∙ ap (λ (v : List (Option X)). set v i (Some b.value)) seen
