-- What each method of the bank makes of the rows.
use Rattle.std.proofs.Common.{◌≡◌, ℕ, ◌+◌, ◌-◌, ◌<◌, ◌≤◌, min, inl, inr, List, [], ◌∷◌, ◌++◌, length, map, take, drop, set, replicate, sym, ap, ◌∙◌, subst, arith, length-take, length-drop, take-take, take-add, get_or, refl, Option, Some, None}
use Rattle.std.proofs.lemmas.List.{length-map, length-replicate, get_or_read, set-get_or, take-map, map-append, drop-map, drop-drop, take_min}
use Rattle.std.specs.List.{refill, length_refill}
use Rattle.sota_bank.specs.declared.bank.Chunk.{Chunk}
use Rattle.sota_bank.specs.Places.{somes, IsRun, spliced}
use Rattle.sota_bank.specs.Rows.{Row, row_of, list_at, cap_at, with_list, AllWithin, overwritten}
use Rattle.sota_bank.specs.Layout.{chunk_at, values, rows_in, IsRowIn, IsLaidOut}
use Rattle.sota_bank.proofs.Runs.{somes-map, run-before, run-after, run-inside, run-replaced, length-replaced, set-replaced, part_written}
use Rattle.sota_bank.proofs.Layouts.{list-at, cap-at, changed}

module _ {X : Type 0} (es : List Chunk) (cs : List (Option X)) (i : ℕ) (x : Chunk) (h : IsLaidOut es cs) (lt : i < length es) (is : x ≡ chunk_at es i) where
  abbrev rows : List (Row X)
  rows = rows_in es cs

  abbrev xs : List X
  xs = list_at rows i

  pub row : IsRowIn cs x
  row = subst (IsRowIn cs) (sym is) (h.each i lt)

  pub list-is : list_at rows i ≡ values cs x
  list-is = list-at es cs i lt ∙ ap (values cs) (sym is)

  pub cap-is : cap_at rows i ≡ x.cap
  cap-is = cap-at es cs i lt ∙ ap (λ e. e.cap) (sym is)

  -- the row's list, as it lies in the places
  pub lies : take x.len (drop x.start cs) ≡ map Some (list_at rows i)
  lies = row.written ∙ ap (map Some) (sym list-is)

  pub as_long : length (list_at rows i) ≡ x.len
  as_long = omega (arith, ap length lies, length-map (list_at rows i) Some, length-take x.len (drop x.start cs), length-drop x.start cs, row.inside, row.within)

  -- a part of the row's list, as it lies there
  pub part_lies : (from to : ℕ) → from ≤ to → to ≤ x.len → IsRun cs (x.start + from) (to - from) × (take (to - from) (drop (x.start + from) cs) ≡ map Some (take (to - from) (drop from (list_at rows i))))
  part_lies from to order within =
      let fits : from + (to - from) ≤ x.len = omega arith in
      let part = ap (take (to - from)) (sym (drop-drop from x.start cs)) ∙ part_written (drop x.start cs) xs x.len from (to - from) fits lies in
      ((omega (arith, row.inside, row.within), (take (to - from) (drop from xs), part)), part)

  -- the row has a new list, and all that changed lies in its places
  pub respliced : (from len : ℕ) (qs : List (Option X)) (e : Chunk) → e.start ≡ x.start → e.cap ≡ x.cap → x.start ≤ from → from + len ≤ x.start + x.cap → length qs ≡ len → e.len ≤ e.cap
      → (ys : List X) → take e.len (drop e.start (spliced cs from len qs)) ≡ map Some ys → IsLaidOut (set es i e) (spliced cs from len qs) × (rows_in (set es i e) (spliced cs from len qs) ≡ with_list rows i ys)
  respliced from len qs e start cap behind before long within ys written =
      let inside : from + len ≤ length cs = omega (arith, row.inside) in
      changed es cs (spliced cs from len qs) i e h lt (start ∙ ap (λ y. y.start) is) (cap ∙ ap (λ y. y.cap) is) (length-replaced cs qs from len inside long)
      (λ s n out. elim out [ inl a ↦ run-before cs qs from len inside long s n (omega arith) | inr b ↦ run-after cs qs from len inside long s n (omega arith) ]) within ys written

  pub appended : (vs : List X) → x.len + length vs ≤ x.cap
      → let e : Chunk = record { start = x.start; len = x.len + length vs; cap = x.cap } in let ds = spliced cs (x.start + x.len) (length vs) (map Some vs) in
      IsLaidOut (set es i e) ds × (rows_in (set es i e) ds ≡ with_list rows i (xs ++ vs))
  appended vs room =
      let n = length vs in let qs = map Some vs in let at = x.start + x.len in let long = length-map vs Some in
      let e : Chunk = record { start = x.start; len = x.len + n; cap = x.cap } in let ds = spliced cs at n qs in
      let inside : at + n ≤ length cs = omega (arith, row.inside) in
      let front : take x.len (drop x.start ds) ≡ map Some xs = run-before cs qs at n inside long x.start x.len (omega arith) ∙ lies in
      let back : take n (drop x.len (drop x.start ds)) ≡ qs = ap (take n) (drop-drop x.len x.start ds) ∙ run-inside cs qs at n inside long in
      let written : take e.len (drop e.start ds) ≡ map Some (xs ++ vs) = take-add x.len n (drop x.start ds) ∙ (λ j. front j ++ back j) ∙ sym (map-append Some xs vs) in
      respliced at n qs e refl refl (omega arith) (omega arith) long (omega arith) (xs ++ vs) written

  pub cut : (k : ℕ) → let e : Chunk = record { start = x.start; len = min x.len k; cap = x.cap } in IsLaidOut (set es i e) cs × (rows_in (set es i e) cs ≡ with_list rows i (take k xs))
  cut k =
      let e : Chunk = record { start = x.start; len = min x.len k; cap = x.cap } in let l = drop x.start cs in
      let less : min x.len k ≤ x.len = omega arith in
      let shorter : take (min x.len k) xs ≡ take k xs = ap (λ n. take n xs) (let flip : min x.len k ≡ min k (length xs) = omega (arith, as_long) in flip) ∙ take_min k xs in
      changed es cs cs i e h lt (ap (λ y. y.start) is) (ap (λ y. y.cap) is) refl (λ s n out. refl) (omega (arith, row.within)) (take k xs)
      (sym (take-take (min x.len k) x.len l less) ∙ ap (take (min x.len k)) lies ∙ take-map Some (min x.len k) xs ∙ ap (map Some) shorter)

  -- the part of the places that a window lends, written over
  abbrev pub rewritten : ℕ → ℕ → List X → List (Option X)
  rewritten from to ws = spliced cs (x.start + from) (to - from) (map Some (refill (to - from) (somes (take (to - from) (drop (x.start + from) cs))) ws))

  pub lent : (from to : ℕ) (ws : List X) → from ≤ to → to ≤ x.len → IsLaidOut es (rewritten from to ws) × (rows_in es (rewritten from to ws) ≡ with_list rows i (overwritten xs from to ws))
  lent from to ws order within =
      let len = to - from in let old = take len (drop from xs) in let new = refill len old ws in
      let part = (part_lies from to order within).1 in
      let olds : somes (take len (drop (x.start + from) cs)) ≡ old = ap somes part ∙ somes-map old in
      let count : len ≡ length old = omega (arith, length-take len (drop from xs), length-drop from xs, as_long) in
      let new_long : length (map Some new) ≡ len = length-map new Some ∙ sym (length_refill len old ws count) in
      let up : from + len ≡ to = omega arith in
      let fits : from + len ≤ x.len = omega arith in let inside : x.start + x.len ≤ length cs = omega (arith, row.inside, row.within) in
      let front : take from (take x.len (drop x.start cs)) ≡ map Some (take from xs) = ap (take from) lies ∙ take-map Some from xs in
      let behind : drop (from + len) (take x.len (drop x.start cs)) ≡ map Some (drop to xs) = ap (drop (from + len)) lies ∙ drop-map Some (from + len) xs ∙ ap (λ n. map Some (drop n xs)) up in
      let written : take x.len (drop x.start (spliced cs (x.start + from) len (map Some new))) ≡ map Some (overwritten xs from to ws) =
      run-replaced cs (map Some new) x.start x.len from len fits inside new_long ∙ (λ j. front j ++ (map Some new ++ behind j))
      ∙ ap (λ l. map Some (take from xs) ++ l) (sym (map-append Some new (drop to xs))) ∙ sym (map-append Some (take from xs) (new ++ drop to xs)) in
      let made = respliced (x.start + from) len (map Some new) x refl refl (omega arith) (omega (arith, row.within)) new_long row.within (overwritten xs from to ws) written in
      let back : set es i x ≡ es = ap (set es i) is ∙ set-get_or es i (record { start = 0; len = 0; cap = 0 }) in
      subst (λ (p : List Chunk × List (Option X)). IsLaidOut p.0 p.1 × (rows_in p.0 p.1 ≡ with_list rows i (overwritten xs from to ws)))
      (λ j. (back j, spliced cs (x.start + from) len (map Some (refill len (sym olds j) ws)))) made

module _ {X : Type 0} (es : List Chunk) (cs : List (Option X)) (h : IsLaidOut es cs) (bank : List (Row X)) (view : rows_in es cs ≡ bank) (i : ℕ) (within : i < length bank) (x : Chunk) (reads : x ≡ get_or es i x) where
  pub there : i < length es
  there = omega (arith, within, ap length view, length-map {B = Row X} es (λ e. row_of (values cs e) e.cap))

  pub is_row : x ≡ chunk_at es i
  is_row = get_or_read es i x there reads (record { start = 0; len = 0; cap = 0 })

  pub run_of : IsRun cs x.start x.len
  run_of = let r = row es cs i x h there is_row in (omega (arith, r.within, r.inside), (values cs x, r.written))

  pub read : (ys : List X) → take x.len (drop x.start cs) ≡ map Some ys → ys ≡ list_at bank i
  read ys e = sym (somes-map ys) ∙ ap somes (sym e) ∙ sym (list-is es cs i x h there is_row) ∙ ap (λ b. list_at b i) view

  pub length_is : length (list_at bank i) ≡ x.len
  length_is = subst (λ b. length (list_at b i) ≡ x.len) view (as_long es cs i x h there is_row)

  pub capacity_is : cap_at bank i ≡ x.cap
  capacity_is = subst (λ b. cap_at b i ≡ x.cap) view (cap-is es cs i x h there is_row)

  pub append : (vs : List X) → length (list_at bank i) + length vs ≤ cap_at bank i
      → let e : Chunk = record { start = x.start; len = x.len + length vs; cap = x.cap } in let ds = spliced cs (x.start + x.len) (length vs) (map Some vs) in
      IsLaidOut (set es i e) ds × (rows_in (set es i e) ds ≡ with_list bank i (list_at bank i ++ vs))
  append vs room =
      let e : Chunk = record { start = x.start; len = x.len + length vs; cap = x.cap } in let ds = spliced cs (x.start + x.len) (length vs) (map Some vs) in
      subst (λ b. IsLaidOut (set es i e) ds × (rows_in (set es i e) ds ≡ with_list b i (list_at b i ++ vs))) view
      (appended es cs i x h there is_row vs (omega (arith, room, length_is, capacity_is)))

  pub push : (v : X) → length (list_at bank i) < cap_at bank i → let e : Chunk = record { start = x.start; len = x.len + 1; cap = x.cap } in
      IsLaidOut (set es i e) (set cs (x.start + x.len) (Some v)) × (rows_in (set es i e) (set cs (x.start + x.len) (Some v)) ≡ with_list bank i (list_at bank i ++ v ∷ []))
  push v room =
      let e : Chunk = record { start = x.start; len = x.len + 1; cap = x.cap } in let r = row es cs i x h there is_row in
      let inside : x.start + x.len < length cs = omega (arith, r.inside, room, length_is, capacity_is) in
      let room' : length (list_at bank i) + 1 ≤ cap_at bank i = omega (arith, room) in
      subst (λ d. IsLaidOut (set es i e) d × (rows_in (set es i e) d ≡ with_list bank i (list_at bank i ++ v ∷ []))) (sym (set-replaced cs (x.start + x.len) (Some v) inside)) (append (v ∷ []) room')

  pub cut_to : (k : ℕ) → let e : Chunk = record { start = x.start; len = min x.len k; cap = x.cap } in IsLaidOut (set es i e) cs × (rows_in (set es i e) cs ≡ with_list bank i (take k (list_at bank i)))
  cut_to k =
      let e : Chunk = record { start = x.start; len = min x.len k; cap = x.cap } in
      subst (λ b. IsLaidOut (set es i e) cs × (rows_in (set es i e) cs ≡ with_list b i (take k (list_at b i)))) view (cut es cs i x h there is_row k)

  -- the row's list comes from elsewhere
  pub take_in : (n : ℕ) (qs : List (Option X)) (ys : List X) → length qs ≡ n → qs ≡ map Some ys → n ≤ cap_at bank i → let e : Chunk = record { start = x.start; len = n; cap = x.cap } in
      IsLaidOut (set es i e) (spliced cs x.start n qs) × (rows_in (set es i e) (spliced cs x.start n qs) ≡ with_list bank i ys)
  take_in n qs ys long written room =
      let e : Chunk = record { start = x.start; len = n; cap = x.cap } in let ds = spliced cs x.start n qs in let r = row es cs i x h there is_row in
      let fits : n ≤ x.cap = omega (arith, room, capacity_is) in
      subst (λ b. IsLaidOut (set es i e) ds × (rows_in (set es i e) ds ≡ with_list b i ys)) view
      (respliced es cs i x h there is_row x.start n qs e refl refl (omega arith) (omega arith) long fits ys (run-inside cs qs x.start n (omega (arith, r.inside)) long ∙ written))

  -- the row's list has gone elsewhere
  pub empty_out : let e : Chunk = record { start = x.start; len = 0; cap = x.cap } in let ds = spliced cs x.start x.len (replicate x.len None) in
      IsLaidOut (set es i e) ds × (rows_in (set es i e) ds ≡ with_list bank i [])
  empty_out =
      let e : Chunk = record { start = x.start; len = 0; cap = x.cap } in let ds = spliced cs x.start x.len (replicate x.len None) in let r = row es cs i x h there is_row in
      subst (λ b. IsLaidOut (set es i e) ds × (rows_in (set es i e) ds ≡ with_list b i [])) view
      (respliced es cs i x h there is_row x.start x.len (replicate x.len None) e refl refl (omega arith) (omega (arith, r.within)) (length-replicate x.len None) (omega arith) [] refl)

  -- the row's run, as it lies in the places
  pub lies_at : take x.len (drop x.start cs) ≡ map Some (list_at bank i)
  lies_at = subst (λ b. take x.len (drop x.start cs) ≡ map Some (list_at b i)) view (lies es cs i x h there is_row)

  pub run_long : length (take x.len (drop x.start cs)) ≡ x.len
  run_long = omega (arith, ap length lies_at, length-map (list_at bank i) Some, length_is)

  pub window_run : (from to : ℕ) → from ≤ to → to ≤ length (list_at bank i) → IsRun cs (x.start + from) (to - from) × (take (to - from) (drop (x.start + from) cs) ≡ map Some (take (to - from) (drop from (list_at bank i))))
  window_run from to order inside =
      subst (λ b. IsRun cs (x.start + from) (to - from) × (take (to - from) (drop (x.start + from) cs) ≡ map Some (take (to - from) (drop from (list_at b i))))) view
      (part_lies es cs i x h there is_row from to order (omega (arith, inside, length_is)))

  pub window_lent : (from to : ℕ) (ws : List X) → from ≤ to → to ≤ length (list_at bank i)
      → let ds = rewritten es cs i x h there is_row from to ws in IsLaidOut es ds × (rows_in es ds ≡ with_list bank i (overwritten (list_at bank i) from to ws))
  window_lent from to ws order inside =
      let ds = rewritten es cs i x h there is_row from to ws in
      subst (λ b. IsLaidOut es ds × (rows_in es ds ≡ with_list b i (overwritten (list_at b i) from to ws))) view
      (lent es cs i x h there is_row from to ws order (omega (arith, inside, length_is)))

pub all_within : {X : Type 0} (es : List Chunk) (cs : List (Option X)) → IsLaidOut es cs → (bank : List (Row X)) → rows_in es cs ≡ bank → AllWithin bank
all_within {X} es cs h bank view = subst AllWithin view (λ i lt.
    let there' : i < length es = omega (arith, lt, length-map {B = Row X} es (λ e. row_of (values cs e) e.cap)) in let x = chunk_at es i in
    omega (arith, as_long es cs i x h there' refl, cap-is es cs i x h there' refl, (h.each i there').within))
