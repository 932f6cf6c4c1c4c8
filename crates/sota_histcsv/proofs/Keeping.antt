-- One more entry.
use Rattle.std.proofs.Common.{◌≡◌, ℕ, ◌+◌, ◌<◌, ◌≤◌, ◌||◌, ◌&&◌, ◌==◌, not, codes, take, drop, option_and_then, Ok, Err, Bool, true, false, cond, List, [], ◌∷◌, ◌++◌, Option, Some, None, refl, sym, ◌∙◌, subst, arith, append_assoc, append-nil, option_to_list, length, length-append, IfSome}
use Rattle.std.specs.List.{All, list_any, count_by}
use Rattle.std.specs.Option.{option_or}
use Rattle.std.specs.Str.{bytes_eq}
use Rattle.std.proofs.lemmas.Bool.{eqb-false}
use Rattle.sota_units.specs.Memory.{Unless}
use Rattle.sota_text.specs.Text.{number_of}
use Rattle.sota_text.specs.Words.{three}
use Rattle.std.proofs.lemmas.List.Elements.{All-nil, All-push}
use Rattle.std.proofs.lemmas.List.Quantifiers.{all_pairs_push}
use Rattle.std.proofs.lemmas.List.Sums.{sum_by-cons}
use Rattle.sota_histcsv.specs.declared.entry.Entry.{Entry}
use Rattle.sota_histcsv.specs.declared.fault.HistFileFault.{HistFileFault}
use Rattle.sota_histcsv.specs.declared.fault.HistFileFault.TheVariants.{Fields, NoArc, ZeroTick, RepeatedTick}
use Rattle.sota_histcsv.specs.Records.{NumberedRecord, numbered_rows, is_scale, scale_in, header_scale, row_entry, kept, entries_in, is_arc, record_fault_of, number_fault, own_fault, same_place, repeat_fault, record_fault, first_record_fault}
use Rattle.sota_histcsv.specs.Histograms.{Contents, fault_first, contents_after, contents}
use Rattle.sota_histcsv.specs.Kept.{HasNoZero, is_at, AreEntries, NumbersRise}
use Rattle.sota_histcsv.proofs.Contents.{entries_push}

pub count-cons : (arc tick : ℕ) (entry : Entry) (entries : List Entry) → count_by (is_at arc tick) (entry ∷ entries) ≡ cond (is_at arc tick entry) 1 0 + count_by (is_at arc tick) entries
count-cons arc tick entry entries = sum_by-cons (λ (other : Entry). cond (is_at arc tick other) 1 0) entry entries

count_none : (arc tick : ℕ) (entries : List Entry) → list_any (is_at arc tick) entries ≡ false → count_by (is_at arc tick) entries ≡ 0
count_none arc tick [] e = refl
count_none arc tick (entry ∷ entries) e =
    count-cons arc tick entry entries
    ∙ elim (is_at arc tick entry) as (λ b. (b || list_any (is_at arc tick) entries) ≡ false → cond b 1 0 + count_by (is_at arc tick) entries ≡ 0) [
      | true ↦ λ e. cc
      | false ↦ λ e. omega (arith, count_none arc tick entries e)
    ] e

count_push : (arc tick : ℕ) (entries : List Entry) (entry : Entry) → count_by (is_at arc tick) (entries ++ entry ∷ []) ≡ count_by (is_at arc tick) entries + cond (is_at arc tick entry) 1 0
count_push arc tick [] entry = omega (arith, count-cons arc tick entry [])
count_push arc tick (first ∷ entries) entry =
    omega (arith, count_push arc tick entries entry, count-cons arc tick first entries, count-cons arc tick first (entries ++ entry ∷ []))

same_at : (arc tick : ℕ) (entry : Entry) → is_at arc tick entry ≡ true → (arc ≡ entry.arc) × (tick ≡ entry.tick)
same_at arc tick entry e = (grind arith, grind arith)

pub kept_push : (entries : List Entry) (entry : Entry) → AreEntries entries → HasNoZero entry → list_any (is_at entry.arc entry.tick) entries ≡ false → AreEntries (entries ++ entry ∷ [])
kept_push entries entry kept good new = record {
  each = All-push HasNoZero entries entry kept.each good;
  once = λ arc tick.
      elim (is_at arc tick entry) as (λ b. is_at arc tick entry ≡ b → count_by (is_at arc tick) (entries ++ entry ∷ []) ≤ 1) [
        | true ↦ λ here.
            let same = same_at arc tick entry here in
            let none : count_by (is_at arc tick) entries ≡ 0 = count_none arc tick entries (rw (same.0, same.1) new) in
            rw (count_push arc tick entries entry, here) (omega arith)
        | false ↦ λ here. rw (count_push arc tick entries entry, here) (omega (arith, kept.once arc tick))
      ] refl;
}

-- an entry that repeats none
not_any : (any : Bool) (fault : HistFileFault) → cond any (Some fault) None ≡ None → any ≡ false
not_any true fault e = cc
not_any false fault e = refl

-- ---- the entries of records without a fault

pub both_none : (a b : Option HistFileFault) → option_or a b ≡ None → (a ≡ None) × (b ≡ None)
both_none (Some fault) b e = cc
both_none None b e = (refl, e)

checked : (arc mass tick : Bool) (entry e : Entry) (timeless nowhere : HistFileFault)
    → cond arc (cond (not mass && tick) (Some timeless) None) (Some nowhere) ≡ None
    → cond mass None (Some entry) ≡ Some e
    → (arc ≡ true) × (mass ≡ false) × (tick ≡ false) × (entry ≡ e)
checked true false false entry e timeless nowhere none is = (refl, refl, refl, cc)
checked true false true entry e timeless nowhere none is = cc
checked true true tick entry e timeless nowhere none is = cc
checked false mass tick entry e timeless nowhere none is = cc

above : (n : ℕ) → (n == 0) ≡ false → 1 ≤ n
above n apart = let no : n ≡ 0 → ⊥ = eqb-false n 0 apart in omega arith

entry_kept : (arcs : ℕ) (entry e : Entry) → record_fault_of arcs entry ≡ None
    → kept (Some entry) ≡ Some e → HasNoZero e
entry_kept arcs entry e none is =
    let parts = checked (is_arc arcs entry.arc) (entry.mass == 0) (entry.tick == 0) entry e
    (ZeroTick entry.number) (NoArc entry.number) none is in
    subst HasNoZero parts.3
    (record {
      arc = (let h : is_arc arcs entry.arc ≡ true = parts.0 in grind arith);
      tick = above entry.tick parts.2;
      mass = above entry.mass parts.1;
    })

number_kept : (arcs number : ℕ) (o : Option Entry) (e : Entry) → number_fault arcs number o ≡ None
    → kept o ≡ Some e → HasNoZero e
number_kept arcs number None e none is = cc
number_kept arcs number (Some entry) e none is = entry_kept arcs entry e none is

own_kept : (arcs : ℕ) (row : NumberedRecord) (e : Entry) → own_fault arcs row ≡ None
    → kept (row_entry row) ≡ Some e → HasNoZero e
own_kept arcs row e none is =
    elim (length row.1 == 3) as (λ b. cond b (number_fault arcs row.0 (row_entry row)) (Some (Fields row.0)) ≡ None → HasNoZero e) [
      | true ↦ λ none. number_kept arcs row.0 (row_entry row) e none is
      | false ↦ λ none. cc
    ] none

kept_one : (entries : List Entry) (o : Option Entry) → AreEntries entries
    → ((e : Entry) → o ≡ Some e → HasNoZero e) → repeat_fault entries o ≡ None
    → AreEntries (entries ++ option_to_list o)
kept_one entries None are each none = subst AreEntries (sym (append-nil entries)) are
kept_one entries (Some entry) are each none =
    kept_push entries entry are (each entry refl)
    (not_any (list_any (same_place entry) entries) (RepeatedTick entry.number) none)

kept_rows : (arcs : ℕ) (before rows : List NumberedRecord) → AreEntries (entries_in before)
    → first_record_fault arcs before rows ≡ None → AreEntries (entries_in (before ++ rows))
kept_rows arcs before [] are none =
    subst (λ rows. AreEntries (entries_in rows)) (sym (append-nil before)) are
kept_rows arcs before (row ∷ rows) are none =
    let parts = both_none (record_fault arcs (entries_in before) row) (first_record_fault arcs (before ++ row ∷ []) rows) none in
    let own = both_none (own_fault arcs row) (repeat_fault (entries_in before) (kept (row_entry row))) parts.0 in
    let next : AreEntries (entries_in (before ++ row ∷ [])) =
    subst AreEntries (sym (entries_push before row))
    (kept_one (entries_in before) (kept (row_entry row)) are (λ e is. own_kept arcs row e own.0 is) own.1) in
    subst (λ rows. AreEntries (entries_in rows)) (append_assoc before (row ∷ []) rows)
    (kept_rows arcs (before ++ row ∷ []) rows next parts.1)

pub none_kept : AreEntries []
none_kept = record { each = All-nil HasNoZero; once = λ arc tick. omega arith }

pub first_ok : {T : Type 0} (fault : Option HistFileFault) (a b : T)
    → fault_first fault (Ok a) ≡ Ok b → (fault ≡ None) × (a ≡ b)
first_ok (Some fault) a b e = cc
first_ok None a b e = (refl, cc)

pub first_err : {T : Type 0} (fault : Option HistFileFault) (a : T) (why : HistFileFault)
    → fault_first fault (Ok a) ≡ Err why → fault ≡ Some why
first_err (Some fault) a why e = cc
first_err None a why e = cc

-- ---- a fact that is needed only where something is not so

pub always : (b : Bool) {P : Type 0} → P → Unless b P
always true p = tt
always false p = p

pub unless_more : (b : Bool) {P Q : Type 0} → (P → Q) → Unless b P → Unless b Q
unless_more true more p = tt
unless_more false more p = more p

-- ---- the scale of a header

scale_found : (test right : Bool) (q scale : ℕ) → cond (test && right) (Some q) None ≡ Some scale
    → (right ≡ true) × (q ≡ scale)
scale_found true true q scale e = (refl, cc)
scale_found true false q scale e = cc
scale_found false right q scale e = cc

field_scale : (field : List ℕ) (scale : ℕ) → scale_in field ≡ Some scale → is_scale scale ≡ true
field_scale field scale is =
    elim (number_of (drop 5 field)) as (λ o. option_and_then (λ q. cond (bytes_eq (take 5 field) (codes "mass/") && is_scale q) (Some q) None) o ≡ Some scale → is_scale scale ≡ true) [
      | None ↦ λ e. cc
      | Some q ↦ λ e.
          let found = scale_found (bytes_eq (take 5 field) (codes "mass/")) (is_scale q) q scale e in
          subst (λ n. is_scale n ≡ true) found.1 found.0
    ] is

words_scale : (right : Bool) (field : List ℕ) (scale : ℕ) → cond right (scale_in field) None ≡ Some scale
    → is_scale scale ≡ true
words_scale true field scale e = field_scale field scale e
words_scale false field scale e = cc

header_is : (fields : List (List ℕ)) (scale : ℕ) → header_scale fields ≡ Some scale → is_scale scale ≡ true
header_is fields scale is =
    elim (three fields) as (λ o. option_and_then (λ word. cond (bytes_eq word.0 (codes "arc") && bytes_eq word.1 (codes "tick")) (scale_in word.2) None) o ≡ Some scale → is_scale scale ≡ true) [
      | None ↦ λ e. cc
      | Some word ↦ λ e. words_scale (bytes_eq word.0 (codes "arc") && bytes_eq word.1 (codes "tick")) word.2 scale e
    ] is

-- ---- what holds of the contents of records

pub record AreContents (known : Contents) : Type 0 where
  pub scale : 1 ≤ known.scale
  pub kept : AreEntries known.entries

contents_kept : (arcs : ℕ) (scale : Option ℕ) (rows : List NumberedRecord) (known : Contents)
    → ((n : ℕ) → scale ≡ Some n → is_scale n ≡ true)
    → contents_after arcs scale rows ≡ Ok known → AreContents known
contents_kept arcs None rows known header is = cc
contents_kept arcs (Some scale) rows known header is =
    let ok = first_ok (first_record_fault arcs [] rows) (record { scale = scale; entries = entries_in rows }) known is in
    subst AreContents ok.1
    (record {
      scale = (let h : is_scale scale ≡ true = header scale refl in grind arith);
      kept = kept_rows arcs [] rows none_kept ok.0;
    })

pub are_contents : (arcs : ℕ) (all : List (List (List ℕ))) (known : Contents)
    → contents arcs all ≡ Ok known → AreContents known
are_contents arcs [] known is = cc
are_contents arcs (header ∷ rows) known is =
    contents_kept arcs (header_scale header) (numbered_rows rows) known (header_is header) is

-- ---- the entries after one record more

pub record Grown (entries : List Entry) (number : ℕ) : Type 0 where
  pub few : length entries < number
  pub rise : NumbersRise entries
  pub below : All (λ (entry : Entry). entry.number < number) entries

pub grown : (entries : List Entry) (o : Option Entry) (number : ℕ) → length entries < number
    → NumbersRise entries → All (λ (entry : Entry). entry.number < number) entries
    → IfSome o (λ (entry : Entry). entry.number ≡ number)
    → Grown (entries ++ option_to_list o) (number + 1)
grown entries None number few rise below next =
    subst (λ (entries : List Entry). Grown entries (number + 1)) (sym (append-nil entries))
    (record { few = omega arith; rise = rise; below = λ k d under. omega (arith, below k d under) })
grown entries (Some entry) number few rise below next = record {
  few = omega (arith, length-append entries (entry ∷ []));
  rise = all_pairs_push (λ (one other : Entry). one.number < other.number) entries entry rise
      (λ k d under. omega (arith, below k d under, next));
  below = All-push (λ (entry : Entry). entry.number < number + 1) entries entry
      (λ k d under. omega (arith, below k d under)) (omega (arith, next));
}
