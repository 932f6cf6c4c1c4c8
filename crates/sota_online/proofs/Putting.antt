-- Values that are put from a place on.
use Rattle.std.proofs.Common.{◌≡◌, ℕ, ◌+◌, ◌-◌, ◌<◌, ◌≤◌, List, ◌++◌, take, drop, set, length, get_or, get_or-set_other, get_or-set_same, length-set, length-take, length-drop, get_or-take, ⊎_elim, inl, inr, refl, sym, ◌∙◌, ap, subst, arith}
use Rattle.std.proofs.lemmas.Bool.{cases_lt, cases_eq}
use Rattle.std.proofs.lemmas.List.{ext_get_or, take-append-le, take_all, append_assoc, length-append, get_or_append_left, get_or-append_right}
use Rattle.std.proofs.Math.Seq.{take-add}
use Rattle.sota_online.specs.Summer.{SummerState, IsPut, fed_all}

-- none yet
pub put-none : (xs : List ℕ) (at : ℕ) (value : ℕ → ℕ) → IsPut xs xs at 0 value
put-none xs at value = record {
  size = refl;
  put = λ k below. absurd (omega arith);
  others = λ j apart. refl;
}

-- one more
pub put-next : (old new : List ℕ) (at count v : ℕ) (value : ℕ → ℕ) → IsPut old new at count value → at + count < length old → v ≡ value count → IsPut old (set new (at + count) v) at (count + 1) value
put-next old new at count v value p room is = record {
  size = length-set new (at + count) v ∙ p.size;
  put = λ k below.
      ⊎_elim (λ (here : k ≡ count).
      ap (λ (j : ℕ). get_or (set new (at + count) v) (at + j) 0) here ∙ get_or-set_same new (at + count) v 0 (omega (arith, p.size)) ∙ is ∙ ap value (sym here))
      (λ (apart : k ≡ count → ⊥).
      get_or-set_other new (at + count) (at + k) v 0 (λ e. apart (omega arith)) ∙ p.put k (omega arith)) (cases_eq k count);
  others = λ j apart.
      let away : at + count ≡ j → ⊥ = λ e. ⊎_elim (λ (a : j < at). omega arith) (λ (b : at + (count + 1) ≤ j). omega arith) apart in
      get_or-set_other new (at + count) j v 0 (λ e. away (sym e))
      ∙ p.others j (⊎_elim (λ (a : j < at). inl a) (λ (b : at + (count + 1) ≤ j). inr (omega arith)) apart);
}

-- all stay below a limit
pub put-small : (old new : List ℕ) (at count limit : ℕ) (value : ℕ → ℕ) → IsPut old new at count value → ((k : ℕ) → k < count → value k ≤ limit) → ((a : ℕ) → get_or old a 0 ≤ limit) → (a : ℕ) → get_or new a 0 ≤ limit
put-small old new at count limit value p most low a =
    ⊎_elim (λ (before : a < at). rw (p.others a (inl before)) (low a))
    (λ (from : at ≤ a).
    ⊎_elim (λ (inside : a < at + count).
    let here : at + (a - at) ≡ a = omega arith in
    omega (arith, ap (λ (j : ℕ). get_or new j 0) here, p.put (a - at) (omega arith), most (a - at) (omega arith)))
    (λ (past : at + count ≤ a). rw (p.others a (inr past)) (low a)) (cases_lt a (at + count)))
    (cases_lt a at)

-- what is held then, from the first on
pub put-taken : (old new part : List ℕ) (at : ℕ) → IsPut old new at (length part) (λ k. get_or part k 0) → at + length part ≤ length old → take (at + length part) new ≡ take at old ++ part
put-taken old new part at p room =
    let n : ℕ = at + length part in
    let long : length (take n new) ≡ n = omega (arith, length-take n new, p.size) in
    let first : length (take at old) ≡ at = omega (arith, length-take at old) in
    ext_get_or 0 (take n new) (take at old ++ part) (omega (arith, long, first, length-append (take at old) part)) (λ k below'.
    let below : k < n = omega (arith, long, below') in
    get_or-take n new k 0 below
    ∙ ⊎_elim (λ (before : k < at). p.others k (inl before) ∙ sym (get_or-take at old k 0 before) ∙ sym (get_or_append_left (take at old) part 0 k (omega (arith, first))))
    (λ (from : at ≤ k).
    let here : at + (k - at) ≡ k = omega arith in
    ap (λ (j : ℕ). get_or new j 0) (sym here) ∙ p.put (k - at) (omega arith) ∙ sym (get_or-append_right (take at old) part at k 0 first from))
    (cases_lt k at))

-- a part that was lent whole
pub whole_put : (xs ys : List ℕ) (n : ℕ) → length ys ≡ length xs → n ≡ length xs → take n (ys ++ drop (length ys) xs) ≡ ys
whole_put xs ys n same long = take-append-le n ys (drop (length ys) xs) (omega arith) ∙ take_all n ys (omega arith)

-- values that were put into a list that was lent whole
pub put-whole : (values old new : List ℕ) (len at n count : ℕ) (value : ℕ → ℕ) → IsPut old new at n value → old ≡ values → n ≡ count → len ≡ length values → IsPut values (take len (new ++ drop (length new) values)) at count value
put-whole values old new len at n count value p is as_many whole =
    let here : IsPut values new at count value = subst (λ (m : ℕ). IsPut values new at m value) as_many (subst (λ (xs : List ℕ). IsPut xs new at n value) is p) in
    subst (λ (xs : List ℕ). IsPut values xs at count value) (sym (whole_put values new len here.size whole)) here

-- what a summer means to which values were put that fit, into a list that was lent whole
pub put-state : (masses values old new part : List ℕ) (len fed start n m : ℕ) (state : SummerState) → IsPut old new fed m (λ k. get_or part k 0) → old ≡ values → m ≡ n → n ≡ length part → len ≡ length values → n ≤ state.room
    → fed ≤ length values → record { kernel = masses; values = take fed values; room = length values - fed; start = start } ≡ state
    → record { kernel = masses; values = take (fed + n) (take len (new ++ drop (length new) values)); room = length (take len (new ++ drop (length new) values)) - (fed + n); start = start } ≡ fed_all part state
put-state masses values old new part len fed start n m state put is as_many all whole fits within view =
    let values' : List ℕ = take len (new ++ drop (length new) values) in
    let here : IsPut values values' fed (length part) (λ k. get_or part k 0) = put-whole values old new len fed m (length part) (λ k. get_or part k 0) put is (as_many ∙ all) whole in
    let left : length values - fed ≡ state.room = ap (λ (s : SummerState). s.room) view in
    let held : take (fed + n) values' ≡ take fed values ++ part = ap (λ (k : ℕ). take (fed + k) values') all ∙ put-taken values values' part fed here (omega arith) in
    let room : length values' - (fed + n) ≡ length values - fed - length part = omega (arith, here.size) in
    let from : SummerState = record { kernel = masses; values = take fed values; room = length values - fed; start = start } in
    let to : SummerState = record { kernel = masses; values = take fed values ++ part; room = length values' - (fed + n); start = start } in
    ◌∙◌ {b = to} (ap (λ (vs : List ℕ). record { kernel = masses; values = vs; room = length values' - (fed + n); start = start }) held)
    (◌∙◌ {b = fed_all part from} (ap (λ (r : ℕ). record { kernel = masses; values = take fed values ++ part; room = r; start = start }) room)
    (ap (λ (s : SummerState). fed_all part s) view))

-- some values and then more are all of them
fed_all-append : (xs ys : List ℕ) (s : SummerState) → fed_all ys (fed_all xs s) ≡ fed_all (xs ++ ys) s
fed_all-append xs ys s =
    ap (λ (vs : List ℕ). record { kernel = s.kernel; values = vs; room = s.room - length xs - length ys; start = s.start }) (append_assoc s.values xs ys)
    ∙ ap (λ (r : ℕ). record { kernel = s.kernel; values = s.values ++ (xs ++ ys); room = r; start = s.start }) (omega (arith, length-append xs ys))

pub feed-more : (values : List ℕ) (done n : ℕ) (old now new : SummerState) → now ≡ fed_all (take done values) old → new ≡ fed_all (take n (take (length values - done) (drop done values))) now → new ≡ fed_all (take (done + n) values) old
feed-more values done n old now new before after =
    let rest : take (length values - done) (drop done values) ≡ drop done values = take_all (length values - done) (drop done values) (omega (arith, length-drop done values)) in
    after ∙ ap (λ (vs : List ℕ). fed_all (take n vs) now) rest ∙ ap (λ (s : SummerState). fed_all (take n (drop done values)) s) before ∙ fed_all-append (take done values) (take n (drop done values)) old
    ∙ ap (λ (vs : List ℕ). fed_all vs old) (sym (take-add done n values))

-- how many there are
pub fed-length : (values : List ℕ) (done : ℕ) (old now : SummerState) → now ≡ fed_all (take done values) old → done ≤ length values → length now.values ≡ length old.values + done
fed-length values done old now at within =
    ap (λ (s : SummerState). length s.values) at ∙ length-append old.values (take done values) ∙ omega (arith, length-take done values)
