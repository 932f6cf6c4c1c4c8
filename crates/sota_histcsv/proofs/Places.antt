-- Entries by rising places: the pairs of each arc are a travel time.
use Rattle.std.proofs.Common.{◌≡◌, ℕ, zero, suc, ◌+◌, ◌<◌, ◌≤◌, ◌==◌, true, false, cond, List, [], ◌∷◌, length, get_or, None, refl, sym, ◌∙◌, subst, arith, inl, inr, ⊎_elim}
use Rattle.std.specs.List.{All, filter}
use Rattle.std.specs.List.Sorted.{IsNonDecreasingBy}
use Rattle.std.proofs.lemmas.Bool.{cases_lt, eqb-true, eq-eqb}
use Rattle.std.proofs.lemmas.List.Elements.{All-nil, All-cons, All-head, All-tail}
use Rattle.sota_hist.specs.Time.{RisesFrom, IsTime}
use Rattle.sota_histcsv.specs.declared.entry.Entry.{Entry}
use Rattle.sota_histcsv.specs.Records.{same_place}
use Rattle.sota_histcsv.specs.Histograms.{tick_pairs, arc_pairs}
use Rattle.sota_histcsv.specs.Kept.{HasNoZero, IsBelow, PlacesRise}
use Rattle.sota_histcsv.specs.Repeats.{IsBefore, IsByPlace, IsLeastRepeat}

-- ---- entries in order of which none repeats a place

below_next : (one other : Entry) → IsBefore one other → (same_place one other ≡ true → ⊥)
    → IsBelow one other
below_next one other before apart =
    ⊎_elim
    (λ (less : one.arc < other.arc). inl less)
    (λ (more : other.arc ≤ one.arc).
    let arc : one.arc ≡ other.arc = omega (arith, before.arc) in
    ⊎_elim
    (λ (less : one.tick < other.tick). inr (arc, less))
    (λ (high : other.tick ≤ one.tick).
    let tick : one.tick ≡ other.tick = omega (arith, before.tick arc) in
    absurd (apart (rw (eq-eqb one.arc other.arc arc, eq-eqb one.tick other.tick tick) refl)))
    (cases_lt one.tick other.tick))
    (cases_lt one.arc other.arc)

rise_by_step : (entries : List Entry)
    → ((k : ℕ) (d : Entry) → k + 1 < length entries → IsBelow (get_or entries k d) (get_or entries (k + 1) d))
    → PlacesRise entries
rise_by_step [] step = tt
rise_by_step (entry ∷ []) step = tt
rise_by_step (entry ∷ next ∷ entries) step = (
  step 0 entry (omega arith),
  rise_by_step (next ∷ entries)
      (λ k d under.
      let at : suc k + 1 ≡ suc (k + 1) = omega arith in
      subst (λ n. IsBelow (get_or (next ∷ entries) k d) (get_or (entry ∷ next ∷ entries) n d)) at
      (step (suc k) d (omega arith))),
)

pub places_rise : (entries sorted : List Entry) → IsByPlace entries sorted
    → IsLeastRepeat sorted (length sorted) None → PlacesRise sorted
places_rise entries sorted by none =
    rise_by_step sorted
    (λ k d under. below_next (get_or sorted k d) (get_or sorted (k + 1) d) (by.order k d under) (none.least d k under))

-- ---- all entries after one

below_more : (x y z : Entry) → IsBelow x y → IsBelow y z → IsBelow x z
below_more x y z a b =
    ⊎_elim
    (λ (p : x.arc < y.arc).
    ⊎_elim
    (λ (q : y.arc < z.arc). inl (omega arith))
    (λ (q : (y.arc ≡ z.arc) × (y.tick < z.tick)). inl (omega (arith, q.0)))
    b)
    (λ (p : (x.arc ≡ y.arc) × (x.tick < y.tick)).
    ⊎_elim
    (λ (q : y.arc < z.arc). inl (omega (arith, p.0)))
    (λ (q : (y.arc ≡ z.arc) × (y.tick < z.tick)). inr (p.0 ∙ q.0, omega (arith, p.1, q.1)))
    b)
    a

pub rise_tail : (entry : Entry) (entries : List Entry) → PlacesRise (entry ∷ entries) → PlacesRise entries
rise_tail entry [] rise = tt
rise_tail entry (next ∷ entries) rise = rise.1

all_above : (entry : Entry) (entries : List Entry) → PlacesRise (entry ∷ entries) → All (IsBelow entry) entries
all_above entry [] rise = All-nil (IsBelow entry)
all_above entry (next ∷ entries) rise =
    All-cons (IsBelow entry) next entries rise.0
    (λ k d under. below_more entry next (get_or entries k d) rise.0 (all_above next entries rise.1 k d under))

-- entries of lesser arcs come first
pub arcs_rise : (entries : List Entry) → PlacesRise entries → IsNonDecreasingBy (λ entry. entry.arc) entries
arcs_rise [] rise i j d low high = absurd (omega arith)
arcs_rise (entry ∷ entries) rise zero zero d low high = omega arith
arcs_rise (entry ∷ entries) rise zero (suc j) d low high =
    ⊎_elim
    (λ (p : entry.arc < (get_or entries j d).arc). omega arith)
    (λ (p : (entry.arc ≡ (get_or entries j d).arc) × (entry.tick < (get_or entries j d).tick)). omega (arith, p.0))
    (all_above entry entries rise j d (omega arith))
arcs_rise (entry ∷ entries) rise (suc i) zero d low high = absurd (omega arith)
arcs_rise (entry ∷ entries) rise (suc i) (suc j) d low high =
    arcs_rise entries (rise_tail entry entries rise) i j d (omega arith) (omega arith)

-- ---- the pairs of an arc

next_above : (entry : Entry) (entries : List Entry) → PlacesRise (entry ∷ entries)
    → All (λ (other : Entry). other.arc ≡ entry.arc → entry.tick < other.tick) entries
next_above entry entries rise k d under same =
    ⊎_elim
    (λ (p : entry.arc < (get_or entries k d).arc). absurd (omega arith))
    (λ (p : (entry.arc ≡ (get_or entries k d).arc) × (entry.tick < (get_or entries k d).tick)). p.1)
    (all_above entry entries rise k d under)

arc_rises : (arc floor : ℕ) (entries : List Entry) → PlacesRise entries → All HasNoZero entries
    → All (λ (entry : Entry). entry.arc ≡ arc → floor < entry.tick) entries
    → RisesFrom floor (arc_pairs entries arc)
arc_rises arc floor [] rise kept high = tt
arc_rises arc floor (entry ∷ entries) rise kept high =
    let tail = rise_tail entry entries rise in
    let more = All-tail HasNoZero entry entries kept in
    let rest = All-tail (λ (entry : Entry). entry.arc ≡ arc → floor < entry.tick) entry entries high in
    elim (entry.arc == arc) as (λ b. entry.arc == arc ≡ b → RisesFrom floor (tick_pairs (cond b (entry ∷ filter (λ (entry : Entry). entry.arc == arc) entries) (filter (λ (entry : Entry). entry.arc == arc) entries)))) [
      | true ↦ λ here.
          let same : entry.arc ≡ arc = eqb-true entry.arc arc here in (
            All-head (λ (entry : Entry). entry.arc ≡ arc → floor < entry.tick) entry entries high same,
            (All-head HasNoZero entry entries kept).mass,
            arc_rises arc entry.tick entries tail more (λ k d under at. next_above entry entries rise k d under (at ∙ sym same)),
          )
      | false ↦ λ here. arc_rises arc floor entries tail more rest
    ] refl

pub arc_is_time : (arc : ℕ) (entries : List Entry) → PlacesRise entries → All HasNoZero entries
    → IsTime (arc_pairs entries arc)
arc_is_time arc entries rise kept = arc_rises arc 0 entries rise kept (λ k d under same. (kept k d under).tick)
