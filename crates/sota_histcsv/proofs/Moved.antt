-- The order of entries makes no difference to the arcs that take their times.
use Rattle.std.proofs.Common.{◌≡◌, ℕ, ◌+◌, ◌≤◌, ◌==◌, ◌&&◌, nat_le, Bool, true, false, cond, List, [], ◌∷◌, map, Some, None, Ok, refl, sym, ◌∙◌, ap, arith}
use Rattle.std.specs.List.{All, filter, count_by, sum_by}
use Rattle.std.specs.List.Sorted.{IsPermutation}
use Rattle.std.specs.Option.{option_or}
use Rattle.std.proofs.lemmas.List.Elements.{All-filter, All-map}
use Rattle.std.proofs.lemmas.List.Sums.{sum_by-cons}
use Rattle.std.proofs.lemmas.List.Sorted.{All-permutation, sum_by-IsPermutation}
use Rattle.sota_hist.specs.Time.{IsTime}
use Rattle.sota_hist.specs.Build.{rising}
use Rattle.sota_hist.specs.Laws.{RisingIsTime, RisingSums, SumsDecide}
use Rattle.sota_dimacs.specs.declared.graph.RawArc.{RawArc}
use Rattle.sota_histcsv.specs.declared.entry.Entry.{Entry}
use Rattle.sota_histcsv.specs.declared.table.Table.{Table}
use Rattle.sota_histcsv.specs.declared.fault.HistFileFault.TheVariants.{Sum}
use Rattle.sota_histcsv.specs.Histograms.{Contents, fault_first, tick_pairs, arc_pairs, time_by, time_fault, timed_arc, histogram_fault, least_fault, numbered_arcs, timed}
use Rattle.sota_histcsv.specs.Kept.{HasNoZero, is_at, AreEntries, HoldsContents, contents_in}

-- ---- sums over the pairs of an arc are sums over entries

abbrev part : (ℕ × ℕ → ℕ) → ℕ → Entry → ℕ
part weight arc entry = cond (entry.arc == arc) (weight (entry.tick, entry.mass)) 0

arc_sum_step : (weight : ℕ × ℕ → ℕ) (here : Bool) (entry : Entry) (rest : List Entry)
    → sum_by weight (tick_pairs (cond here (entry ∷ rest) rest))
    ≡ cond here (weight (entry.tick, entry.mass)) 0 + sum_by weight (tick_pairs rest)
arc_sum_step weight true entry rest = sum_by-cons weight (entry.tick, entry.mass) (tick_pairs rest)
arc_sum_step weight false entry rest = omega arith

arc_sum : (weight : ℕ × ℕ → ℕ) (arc : ℕ) (entries : List Entry)
    → sum_by weight (arc_pairs entries arc) ≡ sum_by (part weight arc) entries
arc_sum weight arc [] = refl
arc_sum weight arc (entry ∷ entries) =
    arc_sum_step weight (entry.arc == arc) entry (filter (λ (entry : Entry). entry.arc == arc) entries)
    ∙ ap (λ more. part weight arc entry + more) (arc_sum weight arc entries)
    ∙ sym (sum_by-cons (part weight arc) entry entries)

-- ---- the pairs of an arc make a time

eq_swap : (x y : ℕ) → (x == y) ≡ (y == x)
eq_swap x y = grind arith

part_at : (here at here' at' : Bool) → here ≡ here' → at ≡ at' → cond {A = ℕ} here (cond at 1 0) 0 ≡ cond {A = ℕ} (here' && at') 1 0
part_at true at here' at' e f = rw (← e, ← f) refl
part_at false at here' at' e f = rw (← e) refl

part_sums : (arc tick : ℕ) (entries : List Entry)
    → sum_by (part (λ (pair : ℕ × ℕ). cond (pair.0 == tick) 1 0) arc) entries ≡ count_by (is_at arc tick) entries
part_sums arc tick [] = refl
part_sums arc tick (entry ∷ entries) =
    omega (
      arith,
      sum_by-cons (part (λ (pair : ℕ × ℕ). cond (pair.0 == tick) 1 0) arc) entry entries,
      sum_by-cons (λ (entry : Entry). cond (is_at arc tick entry) 1 0) entry entries,
      part_at (entry.arc == arc) (entry.tick == tick) (arc == entry.arc) (tick == entry.tick) (eq_swap entry.arc arc) (eq_swap entry.tick tick),
      part_sums arc tick entries,
    )

pub arc_once : (entries : List Entry) (arc : ℕ) → AreEntries entries
    → (tick : ℕ) → count_by (λ (pair : ℕ × ℕ). pair.0 == tick) (arc_pairs entries arc) ≤ 1
arc_once entries arc kept tick =
    omega (arith, arc_sum (λ (pair : ℕ × ℕ). cond (pair.0 == tick) 1 0) arc entries, part_sums arc tick entries, kept.once arc tick)

arc_chances : (entries : List Entry) (arc : ℕ) → All HasNoZero entries
    → All (λ (p : ℕ × ℕ). (1 ≤ p.0) × (1 ≤ p.1)) (arc_pairs entries arc)
arc_chances entries arc kept =
    All-map (λ (p : ℕ × ℕ). (1 ≤ p.0) × (1 ≤ p.1)) (λ (entry : Entry). (entry.tick, entry.mass)) (filter (λ (entry : Entry). entry.arc == arc) entries)
    (λ k d under.
    let one = All-filter (λ (entry : Entry). entry.arc == arc) HasNoZero entries kept k d under in
    (one.tick, one.mass))

pub arc_is_time : RisingIsTime → (entries : List Entry) (arc : ℕ) → AreEntries entries
    → IsTime (rising (arc_pairs entries arc))
arc_is_time valid entries arc kept =
    valid (arc_pairs entries arc) (arc_chances entries arc kept.each) (arc_once entries arc kept)

-- ---- another order of the entries

kept_moved : (entries sorted : List Entry) → IsPermutation entries sorted → AreEntries entries → AreEntries sorted
kept_moved entries sorted moved kept = record {
  each = All-permutation HasNoZero entries sorted moved kept.each;
  once = λ arc tick. omega (arith, sum_by-IsPermutation (λ (entry : Entry). cond (is_at arc tick entry) 1 0) entries sorted moved, kept.once arc tick);
}

sums_moved : (entries sorted : List Entry) (arc : ℕ) → IsPermutation entries sorted
    → (weight : ℕ × ℕ → ℕ) → sum_by weight (arc_pairs sorted arc) ≡ sum_by weight (arc_pairs entries arc)
sums_moved entries sorted arc moved weight =
    arc_sum weight arc sorted ∙ sum_by-IsPermutation (part weight arc) entries sorted moved ∙ sym (arc_sum weight arc entries)

rising_moved : RisingIsTime → RisingSums → SumsDecide → (entries sorted : List Entry) (arc : ℕ)
    → IsPermutation entries sorted → AreEntries entries
    → rising (arc_pairs sorted arc) ≡ rising (arc_pairs entries arc)
rising_moved valid sums known entries sorted arc moved kept =
    known (rising (arc_pairs sorted arc)) (rising (arc_pairs entries arc))
    (arc_is_time valid sorted arc (kept_moved entries sorted moved kept))
    (arc_is_time valid entries arc kept)
    (λ weight. sums weight (arc_pairs sorted arc) ∙ sums_moved entries sorted arc moved weight ∙ sym (sums weight (arc_pairs entries arc)))

record Same (scale number weight : ℕ) (one other : List (ℕ × ℕ)) : Type 0 where
  pub time : time_by scale weight one ≡ time_by scale weight other
  pub fault : time_fault scale number weight one ≡ time_fault scale number weight other

same_pairs : (scale number weight : ℕ) (one other : List (ℕ × ℕ)) → rising one ≡ rising other
    → ((weight : ℕ × ℕ → ℕ) → sum_by weight one ≡ sum_by weight other) → Same scale number weight one other
same_pairs scale number weight [] [] same sums = record { time = refl; fault = refl }
same_pairs scale number weight [] (q ∷ qs) same sums =
    absurd (omega (arith, sums (λ p. 1), sum_by-cons (λ (p : ℕ × ℕ). 1) q qs))
same_pairs scale number weight (p ∷ ps) [] same sums =
    absurd (omega (arith, sums (λ p. 1), sum_by-cons (λ (p : ℕ × ℕ). 1) p ps))
same_pairs scale number weight (p ∷ ps) (q ∷ qs) same sums = record {
  time = same;
  fault = ap (λ (n : ℕ). cond (nat_le n scale) None (Some (Sum number))) (sums (λ (p : ℕ × ℕ). p.1));
}

pub record SameArcs (one other : Contents) : Type 0 where
  pub arcs : (arc : ℕ × RawArc) → timed_arc one arc ≡ timed_arc other arc
  pub faults : (arc : ℕ × RawArc) → histogram_fault one arc ≡ histogram_fault other arc

same_arcs : RisingIsTime → RisingSums → SumsDecide → (scale : ℕ) (entries sorted : List Entry)
    → IsPermutation entries sorted → AreEntries entries
    → SameArcs (record { scale = scale; entries = sorted }) (record { scale = scale; entries = entries })
same_arcs valid sums known scale entries sorted moved kept =
    let same = λ (arc : ℕ × RawArc).
    same_pairs scale arc.0 arc.1.weight (arc_pairs sorted arc.0) (arc_pairs entries arc.0)
    (rising_moved valid sums known entries sorted arc.0 moved kept) (sums_moved entries sorted arc.0 moved) in
    record {
      arcs = λ arc. ap (λ (time : List (ℕ × ℕ)). record { tail = arc.1.tail; head = arc.1.head; time = time }) (same arc).time;
      faults = λ arc. (same arc).fault;
    }

all_faults : (one other : Contents) → SameArcs one other → (arcs : List (ℕ × RawArc))
    → least_fault one arcs ≡ least_fault other arcs
all_faults one other same [] = refl
all_faults one other same (arc ∷ arcs) =
    ap (λ fault. option_or fault (least_fault one arcs)) (same.faults arc)
    ∙ ap (option_or (histogram_fault other arc)) (all_faults one other same arcs)

all_arcs : (one other : Contents) → SameArcs one other → (arcs : List (ℕ × RawArc))
    → map (timed_arc one) arcs ≡ map (timed_arc other) arcs
all_arcs one other same [] = refl
all_arcs one other same (arc ∷ arcs) =
    ap (λ first. first ∷ map (timed_arc one) arcs) (same.arcs arc)
    ∙ ap (λ more. timed_arc other arc ∷ more) (all_arcs one other same arcs)

same_timed : (one other : Contents) → SameArcs one other → (raw : List RawArc) → timed one raw ≡ timed other raw
same_timed one other same raw =
    ap (λ fault. fault_first fault (Ok (map (timed_arc one) (numbered_arcs raw)))) (all_faults one other same (numbered_arcs raw))
    ∙ ap (λ arcs. fault_first (least_fault other (numbered_arcs raw)) (Ok arcs)) (all_arcs one other same (numbered_arcs raw))

pub timed_moved : RisingIsTime → RisingSums → SumsDecide → (table : Table) (known : Contents)
    → HoldsContents table known → AreEntries known.entries → (raw : List RawArc)
    → timed (contents_in table) raw ≡ timed known raw
timed_moved valid sums decide table known holds kept raw =
    rw holds.scale
    (same_timed (record { scale = known.scale; entries = table.entries.items }) known
    (same_arcs valid sums decide known.scale known.entries table.entries.items holds.moved kept) raw)
