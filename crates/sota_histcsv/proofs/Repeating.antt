-- The first record that repeats a place, told from the entries in the order of their places.
use Rattle.std.proofs.Common.{◌≡◌, ℕ, zero, suc, ◌+◌, ◌-◌, ◌<◌, ◌≤◌, ◌==◌, nat_lt, Bool, true, false, cond, List, [], ◌∷◌, ◌++◌, length, length-append, get_or, Option, Some, None, refl, sym, ◌∙◌, ap, subst, arith, append_assoc, ⊎_elim}
use Rattle.std.specs.List.{All, count_by, list_any}
use Rattle.std.specs.List.Sorted.{IsPermutation}
use Rattle.std.specs.Option.{option_or, option_map}
use Rattle.std.specs.Ordering.{is_lt, nat_cmp, ordering_then}
use Rattle.std.specs.declared.cmp.Ordering.{Ordering}
use Rattle.std.specs.declared.cmp.Ordering.TheVariants.{Less, Equal, Greater}
use Rattle.std.proofs.lemmas.Bool.{cases_lt, cases_eq, eq-eqb, ne_eqb, lt-ltb, le-ltb}
use Rattle.std.proofs.lemmas.List.{get_or_read, get_or_default, get_or_at, get_or_append_left}
use Rattle.std.proofs.lemmas.List.Elements.{All-head, All-tail}
use Rattle.std.proofs.lemmas.List.Folds.{Any-from_list_any, list_any_at}
use Rattle.std.proofs.lemmas.List.Sums.{sum_by-cons}
use Rattle.std.proofs.lemmas.List.Sorted.{Contains-permutation, IsPermutation-sym, sum_by-IsPermutation}
use Rattle.sota_histcsv.specs.declared.entry.Entry.{Entry}
use Rattle.sota_histcsv.specs.declared.fault.HistFileFault.TheVariants.{RepeatedTick}
use Rattle.sota_histcsv.specs.Records.{same_place}
use Rattle.sota_histcsv.specs.Kept.{NumbersRise}
use Rattle.sota_histcsv.specs.Repeats.{first_repeat, IsBefore, IsByPlace, IsTwin, IsTwins, IsAtMost, IsLeastRepeat, lesser, lesser_if}

same_parts : (one other : Entry) → same_place one other ≡ true → (one.arc ≡ other.arc) × (one.tick ≡ other.tick)
same_parts one other e = (grind arith, grind arith)

same_both : (one other : Entry) → one.arc ≡ other.arc → one.tick ≡ other.tick → same_place one other ≡ true
same_both one other arc tick = rw (eq-eqb one.arc other.arc arc, eq-eqb one.tick other.tick tick) refl

clash : {b : Bool} → b ≡ false → b ≡ true → ⊥
clash e f = cc

-- ---- the first of the entries that repeats one

-- an entry has the place of one of those before it
pub record Seen (entries : List Entry) (d : Entry) (n : ℕ) : Type 0 where
  pub place : ℕ
  pub under : place < n
  pub same : same_place (get_or entries n d) (get_or entries place d) ≡ true

at_seam : (entries before rest : List Entry) (entry d : Entry) → entries ≡ before ++ entry ∷ rest → get_or entries (length before) d ≡ entry
at_seam entries before rest entry d e = ap (λ (all : List Entry). get_or all (length before) d) e ∙ get_or_at before entry rest d (length before) refl

at_front : (entries before rest : List Entry) (d : Entry) (i : ℕ) → entries ≡ before ++ rest → i < length before → get_or entries i d ≡ get_or before i d
at_front entries before rest d i e under = ap (λ (all : List Entry). get_or all i d) e ∙ get_or_append_left before rest d i under

seen_any : (entries before rest : List Entry) (entry d : Entry) → entries ≡ before ++ entry ∷ rest → list_any (same_place entry) before ≡ true → Seen entries d (length before)
seen_any entries before rest entry d e any =
    let (k, x, under, is, same) = Any-from_list_any (same_place entry) before any in
    let there : get_or entries k d ≡ x = at_front entries before (entry ∷ rest) d k e under ∙ get_or_default before k d x under ∙ is in
    record { place = k; under = under; same = rw (at_seam entries before rest entry d e, there) same }

any_seen : (entries before rest : List Entry) (entry d : Entry) (i : ℕ) → entries ≡ before ++ entry ∷ rest → i < length before → same_place (get_or entries (length before) d) (get_or entries i d) ≡ true
    → list_any (same_place entry) before ≡ true
any_seen entries before rest entry d i e under same =
    list_any_at (same_place entry) before i d under (rw (at_seam entries before rest entry d e, at_front entries before (entry ∷ rest) d i e under) at same)

abbrev pub NoneTo : List Entry → Entry → ℕ → Type 0
NoneTo entries d end = (a b : ℕ) → a < b → b < end → same_place (get_or entries b d) (get_or entries a d) ≡ true → ⊥

moved_on : (entries before rest : List Entry) (entry : Entry) → entries ≡ before ++ entry ∷ rest → entries ≡ (before ++ entry ∷ []) ++ rest
moved_on entries before rest entry e = e ∙ sym (append_assoc before (entry ∷ []) rest)

all_length : (entries before rest : List Entry) → entries ≡ before ++ rest → length entries ≡ length before + length rest
all_length entries before rest e = ap length e ∙ length-append before rest

first_is : (entries before rest : List Entry) (d : Entry) (i j : ℕ) → entries ≡ before ++ rest → i < j → j < length entries → length before ≤ j
    → same_place (get_or entries j d) (get_or entries i d) ≡ true → NoneTo entries d j → first_repeat before rest ≡ Some (RepeatedTick (get_or entries j d).number)
first_is entries before [] d i j e less under behind same none = absurd (omega (arith, all_length entries before [] e))
first_is entries before (entry ∷ rest) d i j e less under behind same none =
    let here = at_seam entries before rest entry d e in
    elim (list_any (same_place entry) before) as (λ any. list_any (same_place entry) before ≡ any
    → option_or (cond any (Some (RepeatedTick entry.number)) None) (first_repeat (before ++ entry ∷ []) rest) ≡ Some (RepeatedTick (get_or entries j d).number)) [
      | true ↦ λ any.
          let seen = seen_any entries before rest entry d e any in
          ⊎_elim
          (λ (early : length before < j). absurd (none seen.place (length before) seen.under early seen.same))
          (λ (late : j ≤ length before).
          let at : length before ≡ j = omega arith in
          ap (λ (one : Entry). Some (RepeatedTick one.number)) (sym here) ∙ ap (λ (n : ℕ). Some (RepeatedTick (get_or entries n d).number)) at)
          (cases_lt (length before) j)
      | false ↦ λ any.
          ⊎_elim
          (λ (at : j ≡ length before).
          let some = any_seen entries before rest entry d i e (omega arith) (subst (λ (n : ℕ). same_place (get_or entries n d) (get_or entries i d) ≡ true) at same) in
          absurd (clash any some))
          (λ (apart : j ≡ length before → ⊥).
          first_is entries (before ++ entry ∷ []) rest d i j (moved_on entries before rest entry e) less under (omega (arith, length-append before (entry ∷ []))) same none)
          (cases_eq j (length before))
    ] refl

none_is : (entries before rest : List Entry) (d : Entry) → entries ≡ before ++ rest → NoneTo entries d (length entries) → first_repeat before rest ≡ None
none_is entries before [] d e none = refl
none_is entries before (entry ∷ rest) d e none =
    elim (list_any (same_place entry) before) as (λ any. list_any (same_place entry) before ≡ any
    → option_or (cond any (Some (RepeatedTick entry.number)) None) (first_repeat (before ++ entry ∷ []) rest) ≡ None) [
      | true ↦ λ any.
          let seen = seen_any entries before rest entry d e any in
          absurd (none seen.place (length before) seen.under (omega (arith, all_length entries before (entry ∷ rest) e)) seen.same)
      | false ↦ λ any. none_is entries (before ++ entry ∷ []) rest d (moved_on entries before rest entry e) none
    ] refl

-- ---- the order of places

before_same : (one : Entry) → IsBefore one one
before_same one = record { arc = omega arith; tick = λ e. omega arith; number = λ e f. omega arith }

before_more : (x y z : Entry) → IsBefore x y → IsBefore y z → IsBefore x z
before_more x y z a b = record {
  arc = omega (arith, a.arc, b.arc);
  tick = λ e.
      let p : x.arc ≡ y.arc = omega (arith, a.arc, b.arc) in
      let q : y.arc ≡ z.arc = omega (arith, a.arc, b.arc) in
      omega (arith, a.tick p, b.tick q);
  number = λ e f.
      let p : x.arc ≡ y.arc = omega (arith, a.arc, b.arc) in
      let q : y.arc ≡ z.arc = omega (arith, a.arc, b.arc) in
      let s : x.tick ≡ y.tick = omega (arith, a.tick p, b.tick q) in
      let t : y.tick ≡ z.tick = omega (arith, a.tick p, b.tick q) in
      omega (arith, a.number p s, b.number q t);
}

-- what stands between two of one place has that place
between : (x y z : Entry) → IsBefore x y → IsBefore y z → x.arc ≡ z.arc → x.tick ≡ z.tick → same_place y z ≡ true
between x y z a b arc tick =
    let p : x.arc ≡ y.arc = omega (arith, a.arc, b.arc) in
    let q : y.arc ≡ z.arc = omega (arith, a.arc, b.arc) in
    let t : y.tick ≡ z.tick = omega (arith, a.tick p, b.tick q) in
    same_both y z q t

far : (entries sorted : List Entry) (d : Entry) → IsByPlace entries sorted → (n k j : ℕ) → j ≡ k + n → j < length sorted → IsBefore (get_or sorted k d) (get_or sorted j d)
far entries sorted d by zero k j e under =
    let same : k ≡ j = omega arith in
    subst (λ (j : ℕ). IsBefore (get_or sorted k d) (get_or sorted j d)) same (before_same (get_or sorted k d))
far entries sorted d by (suc n) k j e under =
    let next : k + n + 1 ≡ j = omega arith in
    let one = far entries sorted d by n k (k + n) refl (omega arith) in
    subst (λ (j : ℕ). IsBefore (get_or sorted k d) (get_or sorted j d)) next (before_more _ _ _ one (by.order (k + n) d (omega arith)))

-- ---- the same entries stand in both lists

pub record At (entries : List Entry) (d entry : Entry) : Type 0 where
  pub place : ℕ
  pub under : place < length entries
  pub is : get_or entries place d ≡ entry

at_moved : (entries others : List Entry) (d : Entry) (i : ℕ) → IsPermutation entries others → i < length entries → At others d (get_or entries i d)
at_moved entries others d i moved under =
    let entry = get_or entries i d in
    let (k, below, is) = Contains-permutation entries others entry moved (i, under, get_or_default entries i entry d under) in
    record { place = k; under = below; is = sym (get_or_read others k entry below (sym is) d) }

pub record Twin (sorted : List Entry) (d : Entry) (number : ℕ) : Type 0 where
  pub place : ℕ
  pub under : place + 1 < length sorted
  pub twin : IsTwin sorted d place
  pub is : (get_or sorted (place + 1) d).number ≡ number

twin_at : (entries sorted : List Entry) (d x y : Entry) → IsByPlace entries sorted → (a c b : ℕ) → a ≤ c → b ≡ c + 1 → b < length sorted → get_or sorted a d ≡ x → get_or sorted b d ≡ y → same_place y x ≡ true → Twin sorted d y.number
twin_at entries sorted d x y by a c b less e under is_x is_y same =
    let parts = same_parts y x same in
    let next : get_or sorted (c + 1) d ≡ y = ap (λ (n : ℕ). get_or sorted n d) (sym e) ∙ is_y in
    let arc : (get_or sorted a d).arc ≡ (get_or sorted (c + 1) d).arc = ap (λ (z : Entry). z.arc) is_x ∙ sym parts.0 ∙ ap (λ (z : Entry). z.arc) (sym next) in
    let tick : (get_or sorted a d).tick ≡ (get_or sorted (c + 1) d).tick = ap (λ (z : Entry). z.tick) is_x ∙ sym parts.1 ∙ ap (λ (z : Entry). z.tick) (sym next) in
    record {
      place = c;
      under = omega arith;
      twin = between _ _ _ (far entries sorted d by (c - a) a c (omega arith) (omega arith)) (by.order c d (omega arith)) arc tick;
      is = ap (λ (z : Entry). z.number) next;
    }

-- an entry that repeats an earlier one stands behind one of its place
twin_of : (entries sorted : List Entry) (d : Entry) (i j : ℕ) → NumbersRise entries → IsByPlace entries sorted → i < j → j < length entries → same_place (get_or entries j d) (get_or entries i d) ≡ true
    → Twin sorted d (get_or entries j d).number
twin_of entries sorted d i j rise by less under same =
    let x = get_or entries i d in
    let y = get_or entries j d in
    let p = at_moved entries sorted d i by.moved (omega arith) in
    let q = at_moved entries sorted d j by.moved under in
    let up : x.number < y.number = rise i j d less under in
    ⊎_elim
    (λ (h : p.place < q.place). twin_at entries sorted d x y by p.place (q.place - 1) q.place (omega arith) (omega arith) q.under p.is q.is same)
    (λ (h : q.place ≤ p.place).
    let parts = same_parts y x same in
    let down : IsBefore y x = subst (λ (z : Entry). IsBefore z x) q.is (subst (λ (z : Entry). IsBefore (get_or sorted q.place d) z) p.is (far entries sorted d by (p.place - q.place) q.place p.place (omega arith) p.under)) in
    absurd (omega (arith, down.number parts.0 parts.1)))
    (cases_lt p.place q.place)

-- ---- no number stands twice

count-more : (n : ℕ) (entry : Entry) (entries : List Entry) → count_by (λ (e : Entry). e.number == n) (entry ∷ entries) ≡ cond (entry.number == n) 1 0 + count_by (λ (e : Entry). e.number == n) entries
count-more n entry entries = sum_by-cons (λ (e : Entry). cond (e.number == n) 1 0) entry entries

count_above : (n : ℕ) (entries : List Entry) → All (λ (e : Entry). n < e.number) entries → count_by (λ (e : Entry). e.number == n) entries ≡ 0
count_above n [] above = refl
count_above n (entry ∷ entries) above =
    let here : n < entry.number = All-head (λ (e : Entry). n < e.number) entry entries above in
    let rest = count_above n entries (All-tail (λ (e : Entry). n < e.number) entry entries above) in
    rw (count-more n entry entries, ne_eqb entry.number n (λ e. omega arith)) (omega (arith, rest))

count_once : (n : ℕ) (entries : List Entry) → NumbersRise entries → count_by (λ (e : Entry). e.number == n) entries ≤ 1
count_once n [] rise = omega arith
count_once n (entry ∷ entries) rise =
    let rest : NumbersRise entries = λ i j d less under. rise (suc i) (suc j) d (omega arith) (omega arith) in
    ⊎_elim
    (λ (is : entry.number ≡ n).
    let above : All (λ (e : Entry). n < e.number) entries = λ k d under. subst (λ (n : ℕ). n < (get_or entries k d).number) is (rise 0 (suc k) d (omega arith) (omega arith)) in
    rw (count-more n entry entries, eq-eqb entry.number n is, count_above n entries above) (omega arith))
    (λ (apart : entry.number ≡ n → ⊥). rw (count-more n entry entries, ne_eqb entry.number n apart) (omega (arith, count_once n entries rest)))
    (cases_eq entry.number n)

count_one : (n : ℕ) (entries : List Entry) (d : Entry) (j : ℕ) → j < length entries → (get_or entries j d).number ≡ n → 1 ≤ count_by (λ (e : Entry). e.number == n) entries
count_one n [] d j under is = absurd (omega arith)
count_one n (entry ∷ entries) d zero under is = rw (count-more n entry entries, eq-eqb entry.number n is) (omega arith)
count_one n (entry ∷ entries) d (suc j) under is = omega (arith, count-more n entry entries, count_one n entries d j (omega arith) is)

count_two : (n : ℕ) (entries : List Entry) (d : Entry) (i j : ℕ) → i < j → j < length entries → (get_or entries i d).number ≡ n → (get_or entries j d).number ≡ n → 2 ≤ count_by (λ (e : Entry). e.number == n) entries
count_two n [] d i j less under one other = absurd (omega arith)
count_two n (entry ∷ entries) d i zero less under one other = absurd (omega arith)
count_two n (entry ∷ entries) d zero (suc j) less under one other =
    rw (count-more n entry entries, eq-eqb entry.number n one) (omega (arith, count_one n entries d j (omega arith) other))
count_two n (entry ∷ entries) d (suc i) (suc j) less under one other =
    omega (arith, count-more n entry entries, count_two n entries d i j (omega arith) (omega arith) one other)

-- two places hold entries of different numbers
apart : (entries sorted : List Entry) (d : Entry) (i j : ℕ) → NumbersRise entries → IsByPlace entries sorted → i < j → j < length sorted → (get_or sorted i d).number ≡ (get_or sorted j d).number → ⊥
apart entries sorted d i j rise by less under same =
    let n = (get_or sorted j d).number in
    omega (arith, count_two n sorted d i j less under same refl, count_once n entries rise, sum_by-IsPermutation (λ (e : Entry). cond (e.number == n) 1 0) entries sorted by.moved)

-- ---- the least number behind one of its place

blank : Entry
blank = record { number = 0; arc = 0; tick = 0; mass = 0 }

pub repeat_is : (entries sorted : List Entry) (least : Option ℕ) → NumbersRise entries → IsByPlace entries sorted → IsLeastRepeat sorted (length sorted) least
    → option_map RepeatedTick least ≡ first_repeat [] entries
repeat_is entries sorted None rise by is =
    sym (none_is entries [] entries blank refl (λ a b less under same.
    let twin = twin_of entries sorted blank a b rise by less under same in
    is.least blank twin.place twin.under twin.twin))
repeat_is entries sorted (Some number) rise by is =
    let (k, under, twin, at) = is.found blank in
    let one = get_or sorted k blank in
    let two = get_or sorted (k + 1) blank in
    let back = IsPermutation-sym entries sorted by.moved in
    let p = at_moved sorted entries blank k back (omega arith) in
    let q = at_moved sorted entries blank (k + 1) back under in
    let parts = same_parts one two twin in
    let up : one.number ≤ two.number = (by.order k blank under).number parts.0 parts.1 in
    let other : one.number ≡ two.number → ⊥ = apart entries sorted blank k (k + 1) rise by (omega arith) under in
    let number_p : (get_or entries p.place blank).number ≡ one.number = ap (λ (e : Entry). e.number) p.is in
    let number_q : (get_or entries q.place blank).number ≡ two.number = ap (λ (e : Entry). e.number) q.is in
    let less : p.place < q.place =
    ⊎_elim
    (λ (h : p.place < q.place). h)
    (λ (h : q.place ≤ p.place).
    ⊎_elim
    (λ (h : q.place < p.place). absurd (other (omega (arith, rise q.place p.place blank h p.under))))
    (λ (g : p.place ≤ q.place).
    let same : p.place ≡ q.place = omega arith in
    absurd (other (sym number_p ∙ ap (λ (n : ℕ). (get_or entries n blank).number) same ∙ number_q)))
    (cases_lt q.place p.place))
    (cases_lt p.place q.place) in
    let same : same_place (get_or entries q.place blank) (get_or entries p.place blank) ≡ true =
    same_both (get_or entries q.place blank) (get_or entries p.place blank) (ap (λ (e : Entry). e.arc) q.is ∙ sym parts.0 ∙ ap (λ (e : Entry). e.arc) (sym p.is)) (ap (λ (e : Entry). e.tick) q.is ∙ sym parts.1 ∙ ap (λ (e : Entry). e.tick) (sym p.is)) in
    let none : NoneTo entries blank q.place = λ a b early below found.
    let before = twin_of entries sorted blank a b rise by early (omega (arith, q.under)) found in
    let low : number ≤ (get_or sorted (before.place + 1) blank).number = is.least blank before.place before.under before.twin in
    omega (arith, low, before.is, at, number_q, rise b q.place blank below q.under) in
    ap (λ (n : ℕ). Some (RepeatedTick n)) (at ∙ sym number_q)
    ∙ sym (first_is entries [] entries blank p.place q.place refl less q.under (omega arith) same none)

-- ---- the order that a sort gives

then_equal : (a b : ℕ) → is_lt (nat_cmp a b) ≡ false → is_lt (ordering_then (nat_cmp a b) Equal) ≡ false
then_equal a b e =
    elim (nat_cmp a b) as (λ o. is_lt o ≡ false → is_lt (ordering_then o Equal) ≡ false) [
      | Less ↦ λ e. e
      | Equal ↦ λ e. e
      | Greater ↦ λ e. e
    ] e

cmp_falls : (a b : ℕ) (more : Ordering) → is_lt (ordering_then (nat_cmp a b) more) ≡ false → (b ≤ a) × (b ≡ a → is_lt more ≡ false)
cmp_falls a b more e =
    ⊎_elim
    (λ (h : a < b). absurd (clash (rw (lt-ltb a b h) at e) refl))
    (λ (h : b ≤ a). (h, λ (same : b ≡ a). (rw (le-ltb a b h, eq-eqb a b (sym same)) at e)))
    (cases_lt a b)

then_both : (a b c : Ordering) → ordering_then (ordering_then a b) c ≡ ordering_then a (ordering_then b c)
then_both Less b c = refl
then_both Equal b c = refl
then_both Greater b c = refl

pub before_is : (one other : Entry) → is_lt (ordering_then (ordering_then (nat_cmp other.arc one.arc) (nat_cmp other.tick one.tick)) (nat_cmp other.number one.number)) ≡ false → IsBefore one other
before_is one other e =
    let arcs = cmp_falls other.arc one.arc _ (subst (λ (o : Ordering). is_lt o ≡ false) (then_both (nat_cmp other.arc one.arc) (nat_cmp other.tick one.tick) (nat_cmp other.number one.number)) e) in
    record {
      arc = arcs.0;
      tick = λ arc. (cmp_falls other.tick one.tick _ (arcs.1 arc)).0;
      number = λ arc tick. (cmp_falls other.number one.number Equal (then_equal other.number one.number ((cmp_falls other.tick one.tick _ (arcs.1 arc)).1 tick))).0;
    }

-- ---- one neighbour more

twins_within : (sorted : List Entry) (d : Entry) (end end' : ℕ) (answer : Option ℕ) → ((k : ℕ) → k + 1 < end → k + 1 < end') → IsTwins sorted d end answer → IsTwins sorted d end' answer
twins_within sorted d end end' None within is = tt
twins_within sorted d end end' (Some n) within (k, under, twin, at) = (k, within k under, twin, at)

twins_lesser : (sorted : List Entry) (d : Entry) (end : ℕ) (answer : Option ℕ) (n : ℕ) → IsTwins sorted d end answer → IsTwins sorted d end (Some n) → IsTwins sorted d end (Some (lesser answer n))
twins_lesser sorted d end None n one other = other
twins_lesser sorted d end (Some m) n one other =
    elim (nat_lt m n) as (λ t. IsTwins sorted d end (Some (cond t m n))) [
      | true ↦ one
      | false ↦ other
    ]

lesser_old : (answer : Option ℕ) (n x : ℕ) → IsAtMost answer x → lesser answer n ≤ x
lesser_old None n x most = absurd most
lesser_old (Some m) n x most =
    ⊎_elim (λ (h : m < n). rw (lt-ltb m n h) most) (λ (h : n ≤ m). rw (le-ltb m n h) (omega arith)) (cases_lt m n)

lesser_new : (answer : Option ℕ) (n : ℕ) → lesser answer n ≤ n
lesser_new None n = omega arith
lesser_new (Some m) n =
    ⊎_elim (λ (h : m < n). rw (lt-ltb m n h) (omega arith)) (λ (h : n ≤ m). rw (le-ltb m n h) (omega arith)) (cases_lt m n)

pub least_more : (sorted : List Entry) (index : ℕ) (answer : Option ℕ) (before entry : Entry) → 1 ≤ index → index < length sorted → before ≡ get_or sorted (index - 1) before → entry ≡ get_or sorted index entry
    → IsLeastRepeat sorted index answer → IsLeastRepeat sorted (index + 1) (lesser_if answer before entry)
least_more sorted index answer before entry some under is_before is_entry is =
    let c = index - 1 in
    let next : c + 1 ≡ index = omega arith in
    let at_c = λ (d : Entry). get_or_read sorted c before (omega arith) is_before d in
    let at_index = λ (d : Entry). get_or_read sorted index entry under is_entry d ∙ ap (λ (n : ℕ). get_or sorted n d) (sym next) in
    elim (same_place before entry) as (λ t. same_place before entry ≡ t → IsLeastRepeat sorted (index + 1) (cond t (Some (lesser answer entry.number)) answer)) [
      | true ↦ λ same. record {
        least = λ d k below twin.
            ⊎_elim
            (λ (h : k + 1 < index). lesser_old answer entry.number _ (is.least d k h twin))
            (λ (h : index ≤ k + 1).
            let here : k ≡ c = omega arith in
            let last : (get_or sorted (k + 1) d).number ≡ entry.number = ap (λ (n : ℕ). (get_or sorted (n + 1) d).number) here ∙ ap (λ (e : Entry). e.number) (sym (at_index d)) in
            omega (arith, last, lesser_new answer entry.number))
            (cases_lt (k + 1) index);
        found = λ d.
            let new : IsTwins sorted d (index + 1) (Some entry.number) = (c, omega arith, rw (← at_c d, ← at_index d) same, ap (λ (e : Entry). e.number) (at_index d)) in
            twins_lesser sorted d (index + 1) answer entry.number (twins_within sorted d index (index + 1) answer (λ k h. omega arith) (is.found d)) new;
      }
      | false ↦ λ other. record {
        least = λ d k below twin.
            ⊎_elim
            (λ (h : k + 1 < index). is.least d k h twin)
            (λ (h : index ≤ k + 1).
            let here : k ≡ c = omega arith in
            let at : same_place (get_or sorted c d) (get_or sorted (c + 1) d) ≡ true = subst (λ (n : ℕ). same_place (get_or sorted n d) (get_or sorted (n + 1) d) ≡ true) here twin in
            absurd (clash other (rw (← at_c d, ← at_index d) at at)))
            (cases_lt (k + 1) index);
        found = λ d. twins_within sorted d index (index + 1) answer (λ k h. omega arith) (is.found d);
      }
    ] refl

pub least_end : (sorted : List Entry) (index : ℕ) (answer : Option ℕ) → length sorted ≤ index → (1 ≤ length sorted → index ≤ length sorted) → index ≤ length sorted + 1 → IsLeastRepeat sorted index answer → IsLeastRepeat sorted (length sorted) answer
least_end sorted index answer past most close is = record {
  least = λ d k under twin. is.least d k (omega arith) twin;
  found = λ d. twins_within sorted d index (length sorted) answer (λ k h. omega arith) (is.found d);
}

pub least_none : (sorted : List Entry) → IsLeastRepeat sorted 1 None
least_none sorted = record { least = λ d k under twin. absurd (omega arith); found = λ d. tt }
