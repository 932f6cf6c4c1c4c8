-- The entries of each arc, taken from the front of entries by rising places.
use Rattle.std.proofs.Common.{◌≡◌, ℕ, suc, ◌+◌, ◌<◌, ◌≤◌, ◌==◌, Bool, true, false, cond, List, [], ◌∷◌, ◌++◌, take, drop, length, map, get_or, None, Some, Result, Ok, Err, refl, sym, ◌∙◌, ap, subst, arith, append_assoc}
use Rattle.std.specs.List.{All, filter, prefix_len, enumerate_from}
use Rattle.std.specs.List.Sorted.{IsNonDecreasingBy}
use Rattle.std.proofs.lemmas.Bool.{eq-eqb, ne_eqb, eqb-true, eqb-false}
use Rattle.std.proofs.lemmas.List.{drop_more, length-map}
use Rattle.std.proofs.lemmas.List.Elements.{All-head, All-tail, All-nil, All-cons}
use Rattle.std.proofs.lemmas.List.Sums.{length-filter, count_by-le-length}
use Rattle.std.proofs.lemmas.List.Sorted.{IsNonDecreasingBy-drop}
use Rattle.sota_hist.specs.Time.{IsTime}
use Rattle.sota_network.specs.declared.network.Arc.{Arc}
use Rattle.sota_dimacs.specs.declared.graph.RawArc.{RawArc}
use Rattle.sota_histcsv.specs.declared.entry.Entry.{Entry}
use Rattle.sota_histcsv.specs.declared.fault.HistFileFault.{HistFileFault}
use Rattle.sota_histcsv.specs.Histograms.{Contents, fault_first, tick_pairs, time_by, time_fault, timed_arc, histogram_fault, least_fault, timed}
use Rattle.sota_histcsv.specs.Kept.{HasNoZero, PlacesRise}
use Rattle.sota_histcsv.proofs.Places.{arcs_rise, arc_is_time}

abbrev pub of_arc : ℕ → Entry → Bool
of_arc arc entry = entry.arc == arc

abbrev pub Rises : List Entry → Type 0
Rises entries = IsNonDecreasingBy (λ entry. entry.arc) entries

abbrev pub AreFrom : ℕ → List Entry → Type 0
AreFrom arc entries = All (λ entry. arc ≤ entry.arc) entries

rises_tail : (entry : Entry) (entries : List Entry) → Rises (entry ∷ entries) → Rises entries
rises_tail entry entries rises i j d h k = rises (suc i) (suc j) d (omega arith) (omega arith)

rises_from : (entry : Entry) (entries : List Entry) → Rises (entry ∷ entries) → AreFrom entry.arc entries
rises_from entry entries rises k d h = rises 0 (suc k) d (omega arith) (omega arith)

from_more : (low high : ℕ) (entries : List Entry) → low ≤ high → AreFrom high entries → AreFrom low entries
from_more low high entries h from k d under = omega (arith, from k d under)

none_of : (arc : ℕ) (entries : List Entry) → AreFrom (arc + 1) entries → filter (of_arc arc) entries ≡ []
none_of arc [] from = refl
none_of arc (entry ∷ entries) from =
    let above : arc + 1 ≤ entry.arc = All-head (λ (entry : Entry). arc + 1 ≤ entry.arc) entry entries from in
    rw (ne_eqb entry.arc arc (λ e. omega arith)) (none_of arc entries (All-tail (λ (entry : Entry). arc + 1 ≤ entry.arc) entry entries from))

-- ---- the entries of an arc stand in front

pub record Parts (arc : ℕ) (entries : List Entry) (n : ℕ) : Type 0 where
  pub mine : take n entries ≡ filter (of_arc arc) entries
  pub from : AreFrom (arc + 1) (drop n entries)
  pub same : (other : ℕ) → arc + 1 ≤ other → filter (of_arc other) (drop n entries) ≡ filter (of_arc other) entries

parts_mine : (arc n : ℕ) (entry : Entry) (entries : List Entry) → entry.arc ≡ arc → Parts arc entries n → Parts arc (entry ∷ entries) (suc n)
parts_mine arc n entry entries is parts = record {
  mine = rw (eq-eqb entry.arc arc is) (ap (λ more. entry ∷ more) parts.mine);
  from = parts.from;
  same = λ other above. rw (ne_eqb entry.arc other (λ e. omega arith)) (parts.same other above);
}

pub parts : (arc : ℕ) (entries : List Entry) → Rises entries → AreFrom arc entries → Parts arc entries (prefix_len (of_arc arc) entries)
parts arc [] rises from = record { mine = refl; from = All-nil _; same = λ other above. refl }
parts arc (entry ∷ entries) rises from =
    elim (entry.arc == arc) as (λ b. entry.arc == arc ≡ b → Parts arc (entry ∷ entries) (cond b (1 + prefix_len (of_arc arc) entries) 0)) [
      | true ↦ λ is.
          let rest = parts arc entries (rises_tail entry entries rises) (All-tail (λ (entry : Entry). arc ≤ entry.arc) entry entries from) in
          let more : 1 + prefix_len (of_arc arc) entries ≡ suc (prefix_len (of_arc arc) entries) = omega arith in
          subst (Parts arc (entry ∷ entries)) (sym more) (parts_mine arc _ entry entries (eqb-true entry.arc arc is) rest)
      | false ↦ λ other.
          let low : arc ≤ entry.arc = All-head (λ (entry : Entry). arc ≤ entry.arc) entry entries from in
          let apart : entry.arc ≡ arc → ⊥ = eqb-false entry.arc arc other in
          let above : arc + 1 ≤ entry.arc = omega arith in
          let all : AreFrom (arc + 1) (entry ∷ entries) = All-cons (λ (entry : Entry). arc + 1 ≤ entry.arc) entry entries above (from_more (arc + 1) entry.arc entries above (rises_from entry entries rises)) in
          record { mine = sym (none_of arc (entry ∷ entries) all); from = all; same = λ other above. refl }
    ] refl

-- ---- what is left for the arcs from a number on

pub record IsRest (entries rest : List Entry) (number : ℕ) : Type 0 where
  pub rises : Rises rest
  pub from : AreFrom number rest
  pub same : (arc : ℕ) → number ≤ arc → filter (of_arc arc) rest ≡ filter (of_arc arc) entries

pub first_rest : (entries : List Entry) → All HasNoZero entries → PlacesRise entries
    → IsRest entries entries 1
first_rest entries kept rise = record {
  rises = arcs_rise entries rise;
  from = λ k d h. (kept k d h).arc;
  same = λ arc above. refl;
}

pub next_rest : (entries rest others : List Entry) (number n : ℕ) → IsRest entries rest number
    → n ≡ prefix_len (of_arc number) rest → others ≡ drop n rest → IsRest entries others (number + 1)
next_rest entries rest others number n is at e =
    let split = parts number rest is.rises is.from in
    let rest_is : others ≡ drop (prefix_len (of_arc number) rest) rest = e ∙ ap (λ n. drop n rest) at in
    subst (λ others. IsRest entries others (number + 1)) (sym rest_is)
    (record {
      rises = IsNonDecreasingBy-drop (λ (entry : Entry). entry.arc) _ rest is.rises;
      from = split.from;
      same = λ arc above. split.same arc above ∙ is.same arc (omega arith);
    })

pub mine_is : (entries rest mine : List Entry) (number n : ℕ) → IsRest entries rest number
    → n ≡ prefix_len (of_arc number) rest → mine ≡ take n rest → mine ≡ filter (of_arc number) entries
mine_is entries rest mine number n is at e =
    e ∙ ap (λ n. take n rest) at ∙ (parts number rest is.rises is.from).mine ∙ is.same number (omega arith)

-- ---- the pairs of one arc

pub mine_rises : (entries mine : List Entry) (number : ℕ) (pairs : List (ℕ × ℕ)) → All HasNoZero entries
    → PlacesRise entries → mine ≡ filter (of_arc number) entries → pairs ≡ tick_pairs mine → IsTime pairs
mine_rises entries mine number pairs kept rise is at =
    subst IsTime (sym (at ∙ ap tick_pairs is)) (arc_is_time number entries rise kept)

pub mine_few : (entries mine : List Entry) (number : ℕ) (pairs : List (ℕ × ℕ))
    → mine ≡ filter (of_arc number) entries → pairs ≡ tick_pairs mine → length pairs ≤ length entries
mine_few entries mine number pairs is at =
    let long : length pairs ≡ length (filter (of_arc number) entries) =
    ap length (at ∙ ap tick_pairs is)
    ∙ length-map (filter (of_arc number) entries) (λ (entry : Entry). (entry.tick, entry.mass)) in
    omega (arith, long, length-filter (of_arc number) entries, count_by-le-length (of_arc number) entries)

-- ---- the arcs that are left

abbrev pub timed_rest : Contents → List Arc → ℕ → List RawArc → Result (List Arc) HistFileFault
timed_rest known arcs number raw =
    fault_first (least_fault known (enumerate_from number raw))
    (Ok (arcs ++ map (timed_arc known) (enumerate_from number raw)))

rest_more : (known : Contents) (arcs : List Arc) (number : ℕ) (arc : RawArc) (raw : List RawArc)
    → histogram_fault known (number, arc) ≡ None
    → timed_rest known arcs number (arc ∷ raw)
    ≡ timed_rest known (arcs ++ timed_arc known (number, arc) ∷ []) (number + 1) raw
rest_more known arcs number arc raw none =
    rw (none, append_assoc arcs (timed_arc known (number, arc) ∷ []) (map (timed_arc known) (enumerate_from (number + 1) raw))) refl

rest_fault : (known : Contents) (arcs : List Arc) (number : ℕ) (arc : RawArc) (raw : List RawArc) (why : HistFileFault)
    → histogram_fault known (number, arc) ≡ Some why → timed_rest known arcs number (arc ∷ raw) ≡ Err why
rest_fault known arcs number arc raw why some = rw some refl

-- ---- one arc of the graph after the other

next_arc : (raw : List RawArc) (index : ℕ) (arc : RawArc) → index < length raw
    → arc ≡ get_or raw index arc → drop index raw ≡ arc ∷ drop (index + 1) raw
next_arc raw index arc under at =
    drop_more raw index arc under ∙ ap (λ (arc : RawArc). arc ∷ drop (index + 1) raw) (sym at)

pub arc_refused : (known : Contents) (mine : List Entry) (pairs : List (ℕ × ℕ)) (arcs : List Arc)
    (all raw : List RawArc) (index : ℕ) (arc : RawArc) (why : HistFileFault) → index < length raw
    → arc ≡ get_or raw index arc → mine ≡ filter (of_arc (index + 1)) known.entries
    → pairs ≡ tick_pairs mine
    → timed_rest known arcs (index + 1) (drop index raw) ≡ timed known all
    → time_fault known.scale (index + 1) arc.weight pairs ≡ Some why → timed known all ≡ Err why
arc_refused known mine pairs arcs all raw index arc why under at is pairs_are so e =
    let here : histogram_fault known (index + 1, arc) ≡ Some why = rw (pairs_are, is) at e in
    sym so
    ∙ ap (timed_rest known arcs (index + 1)) (next_arc raw index arc under at)
    ∙ rest_fault known arcs (index + 1) arc (drop (index + 1) raw) why here

pub arc_timed : (known : Contents) (mine : List Entry) (pairs : List (ℕ × ℕ)) (arcs : List Arc)
    (all raw : List RawArc) (index : ℕ) (arc : RawArc) (time : List (ℕ × ℕ)) → index < length raw
    → arc ≡ get_or raw index arc → mine ≡ filter (of_arc (index + 1)) known.entries
    → pairs ≡ tick_pairs mine
    → timed_rest known arcs (index + 1) (drop index raw) ≡ timed known all
    → time_fault known.scale (index + 1) arc.weight pairs ≡ None
    → time_by known.scale arc.weight pairs ≡ time
    → timed_rest known (arcs ++ record { tail = arc.tail; head = arc.head; time = time } ∷ []) (index + 1 + 1) (drop (index + 1) raw)
    ≡ timed known all
arc_timed known mine pairs arcs all raw index arc time under at is pairs_are so e t =
    let here : histogram_fault known (index + 1, arc) ≡ None = rw (pairs_are, is) at e in
    let time_is : time_by known.scale arc.weight (tick_pairs (filter (of_arc (index + 1)) known.entries)) ≡ time = rw (pairs_are, is) at t in
    let one : record { tail = arc.tail; head = arc.head; time = time } ≡ timed_arc known (index + 1, arc) =
    ap (λ (time : List (ℕ × ℕ)). record { tail = arc.tail; head = arc.head; time = time }) (sym time_is) in
    ap (λ (one : Arc). timed_rest known (arcs ++ one ∷ []) (index + 1 + 1) (drop (index + 1) raw)) one
    ∙ sym (rest_more known arcs (index + 1) arc (drop (index + 1) raw) here)
    ∙ ap (timed_rest known arcs (index + 1)) (sym (next_arc raw index arc under at))
    ∙ so
