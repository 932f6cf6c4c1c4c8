use Rattle.std.proofs.Common.{ℕ, zero, suc, ◌≡◌, ◌≢◌, ◌+◌, ◌-◌, ◌<◌, ◌≤◌, Bool, true, false, not, ◌&&◌, ◌||◌, ◌==◌, List, [], ◌∷◌, length, get_or, Some, refl, sym, ◌∙◌, ap, arith, ⊎_elim, subst, nat_le}
use Rattle.std.specs.List.{All, list_any}
use Rattle.std.proofs.lemmas.List.Elements.{All-head, All-tail, All-weaker}
use Rattle.std.proofs.lemmas.List.Folds.{Any-from_list_any, list_any_at}
use Rattle.std.proofs.lemmas.Bool.{cases_Bool, cases_lt, eqb-true, eqb-false, eq-eqb, ne_eqb, le-leb, leb-true, lt-leb, and_parts, or_cases, not-true}
use Rattle.std.proofs.lemmas.Option.{slice_get-get_or, slice_get_within, get_or_from_slice_get}
use Rattle.sota_hist.specs.Time.{IsTime, is_closed, least_tick}
use Rattle.sota_network.specs.Network.{Net, IsNet, IsArc, arc_at}
use Rattle.sota_network.specs.Walks.{Walk, empty, step}
use Rattle.sota_network.specs.Reach.{goes_on, reach_step, reaches}
use Rattle.sota_network.specs.declared.network.Arc.{Arc}
use Rattle.sota_network.specs.Grid.{Causal}
use Rattle.sota_network.proofs.Budget.{by_budget-is}

-- the least tick of an open arc is at least 1
least-positive : (ps : List (ℕ × ℕ)) → IsTime ps → is_closed ps ≡ false → 1 ≤ least_tick ps
least-positive [] r opened = cc
least-positive (p ∷ ps) r opened = r.0

arc-positive : (net : Net) (a : Arc) → IsArc net a → is_closed a.time ≡ false → 1 ≤ least_tick a.time
arc-positive net a is opened = least-positive a.time is.time opened

or_right : (x y : Bool) → y ≡ true → (x || y) ≡ true
or_right true y h = refl
or_right false y h = h

any-agree : (p q : Arc → Bool) (arcs : List Arc) → All (λ a. p a ≡ q a) arcs → list_any p arcs ≡ list_any q arcs
any-agree p q [] h = refl
any-agree p q (a ∷ arcs) h =
    let head : p a ≡ q a = All-head (λ a. p a ≡ q a) a arcs h in
    let tail : list_any p arcs ≡ list_any q arcs = any-agree p q arcs (All-tail (λ a. p a ≡ q a) a arcs h) in
    rw (head, tail) refl

module _ (net : Net) (valid : IsNet net) (dest j : ℕ) where
  goes-agree : (f g : ℕ → ℕ → Bool) (i t : ℕ) → ((k u : ℕ) → u < t → f k u ≡ g k u) → (a : Arc) → IsArc net a → goes_on dest f i t a ≡ goes_on dest g i t a
  goes-agree f g i t agree a is =
      ⊎_elim
      (λ (closed : is_closed a.time ≡ true). rw closed refl)
      (λ (opened : is_closed a.time ≡ false).
      ⊎_elim
      (λ (late : t < least_tick a.time). rw (lt-leb (least_tick a.time) t late) refl)
      (λ (early : least_tick a.time ≤ t).
      let positive : 1 ≤ least_tick a.time = arc-positive net a is opened in
      let less : t - least_tick a.time < t = omega arith in
      rw (agree a.head (t - least_tick a.time) less) refl)
      (cases_lt t (least_tick a.time)))
      (cases_Bool (is_closed a.time))

  reach-causal : Causal (reach_step net dest j)
  reach-causal f g i t agree =
      ap (λ (b : Bool). (i == j) || b)
      (any-agree (goes_on dest f i t) (goes_on dest g i t) net.arcs
      (All-weaker (IsArc net) (λ (a : Arc). goes_on dest f i t a ≡ goes_on dest g i t a) (λ a is. goes-agree f g i t agree a is) net.arcs valid.arcs))

  pub reaches-is : (i t : ℕ) → reaches net dest j i t ≡ reach_step net dest j (reaches net dest j) i t
  unfolding reaches
  reaches-is i t = by_budget-is false (reach_step net dest j) reach-causal i t

  -- what is reached has a walk of at most that sum
  reach-walk_below : (k i t : ℕ) → t < k → reaches net dest j i t ≡ true → (n : ℕ) × Walk net dest i j n × (n ≤ t)
  reach-walk_below zero i t h sure = absurd (omega arith)
  reach-walk_below (suc k) i t h sure =
      let made : ((i == j) || list_any (goes_on dest (reaches net dest j) i t) net.arcs) ≡ true = sym (reaches-is i t) ∙ sure in
      ⊎_elim
      (λ (at : (i == j) ≡ true).
      let same : i ≡ j = eqb-true i j at in
      (0, subst (λ (m : ℕ). Walk net dest i m 0) same empty, (let z : 0 ≤ t = omega arith in z)))
      (λ (some : list_any (goes_on dest (reaches net dest j) i t) net.arcs ≡ true).
      let found = Any-from_list_any (goes_on dest (reaches net dest j) i t) net.arcs some in
      let e : ℕ = found.0 in
      let a : Arc = found.1 in
      let number : arc_at net (suc e) ≡ Some a = slice_get-get_or net.arcs e a found.2 ∙ ap (λ (b : Arc). Some b) found.3 in
      let is : IsArc net a = subst (λ (b : Arc). IsArc net b) found.3 (valid.arcs e a found.2) in
      let onward : Bool = reaches net dest j a.head (t - least_tick a.time) in
      let timely : Bool = nat_le (least_tick a.time) t && onward in
      let one = and_parts (a.tail == i) (not (a.tail == dest) && (not (is_closed a.time) && timely)) found.4 in
      let two = and_parts (not (a.tail == dest)) (not (is_closed a.time) && timely) one.1 in
      let three = and_parts (not (is_closed a.time)) timely two.1 in
      let four = and_parts (nat_le (least_tick a.time) t) onward three.1 in
      let tail : a.tail ≡ i = eqb-true a.tail i one.0 in
      let leaves : a.tail ≢ dest = eqb-false a.tail dest (not-true (a.tail == dest) two.0) in
      let opened : is_closed a.time ≡ false = not-true (is_closed a.time) three.0 in
      let positive : 1 ≤ least_tick a.time = arc-positive net a is opened in
      let in_time : least_tick a.time ≤ t = leb-true (least_tick a.time) t four.0 in
      let rest : (n : ℕ) × Walk net dest a.head j n × (n ≤ t - least_tick a.time) =
      reach-walk_below k a.head (t - least_tick a.time) (omega arith) four.1 in (
        least_tick a.time + rest.0,
        subst (λ (m : ℕ). Walk net dest m j (least_tick a.time + rest.0)) tail
            (step {n = rest.0} (suc e) a number leaves opened rest.1),
        (let z : least_tick a.time + rest.0 ≤ t = omega (arith, rest.2) in z),
      ))
      (or_cases (i == j) (list_any (goes_on dest (reaches net dest j) i t) net.arcs) made)

  pub reach-walk : (i t : ℕ) → reaches net dest j i t ≡ true → (n : ℕ) × Walk net dest i j n × (n ≤ t)
  reach-walk i t sure = reach-walk_below (suc t) i t (omega arith) sure

one-step : (net : Net) (valid : IsNet net) (dest j t e : ℕ) (a : Arc) → arc_at net e ≡ Some a
    → a.tail ≢ dest → is_closed a.time ≡ false → least_tick a.time ≤ t
    → reaches net dest j a.head (t - least_tick a.time) ≡ true → reaches net dest j a.tail t ≡ true
one-step net valid dest j t zero a number leaves opened early onward = cc
one-step net valid dest j t (suc k) a number leaves opened early onward =
    let within : k < length net.arcs = slice_get_within net.arcs k a number in
    let at : get_or net.arcs k a ≡ a = get_or_from_slice_get net.arcs k a a number in
    let test : Arc → Bool = goes_on dest (reaches net dest j) a.tail t in
    let passes : test a ≡ true =
    rw (eq-eqb a.tail a.tail refl, ne_eqb a.tail dest leaves, opened, le-leb (least_tick a.time) t early, onward) refl in
    let some : list_any test net.arcs ≡ true = list_any_at test net.arcs k a within (rw at passes) in
    reaches-is net valid dest j a.tail t ∙ or_right (a.tail == j) (list_any test net.arcs) some

-- a walk reaches
pub walk-reaches : (net : Net) (valid : IsNet net) (dest : ℕ) {i j n : ℕ} → Walk net dest i j n → (t : ℕ) → n ≤ t → reaches net dest j i t ≡ true
walk-reaches net valid dest {i} {j} empty t h = reaches-is net valid dest j j t ∙ (rw (eq-eqb j j refl) refl)
walk-reaches net valid dest (step {j} {n} e arc number leaves opened rest) t h =
    one-step net valid dest j t e arc number leaves opened (omega arith)
    (walk-reaches net valid dest rest (t - least_tick arc.time) (omega arith))
