-- Rows that lie one after another in the places: what a change of one row leaves.
use Rattle.std.proofs.Common.{◌≡◌, ◌≢◌, ℕ, ◌+◌, ◌<◌, ◌≤◌, ◌⊎◌, inl, inr, List, [], length, map, take, drop, set, get_or, sym, ap, ◌∙◌, subst, arith, length-set, get_or-set_same, get_or-set_other, Option, Some, ext_get_or}
use Rattle.std.proofs.lemmas.List.{get_or-map, length-map, map-set}
use Rattle.std.proofs.lemmas.Bool.{cases_order}
use Rattle.sota_bank.specs.declared.bank.Chunk.{Chunk}
use Rattle.sota_bank.specs.Rows.{Row, row_of, list_at, cap_at, with_list}
use Rattle.sota_bank.specs.Places.{somes}
use Rattle.sota_bank.specs.Layout.{chunk_at, values, rows_in, IsRowIn, IsLaidOut}
use Rattle.sota_bank.proofs.Runs.{somes-map}

abbrev blank : Chunk
blank = record { start = 0; len = 0; cap = 0 }

module _ {X : Type 0} where
  abbrev none : Row X
  none = row_of [] 0

  pub row-at : (es : List Chunk) (cs : List (Option X)) (i : ℕ) → i < length es → get_or (rows_in es cs) i none ≡ row_of (values cs (chunk_at es i)) (chunk_at es i).cap
  row-at es cs i lt = get_or-map (λ e. row_of (values cs e) e.cap) es i blank none lt

  pub list-at : (es : List Chunk) (cs : List (Option X)) (i : ℕ) → i < length es → list_at (rows_in es cs) i ≡ values cs (chunk_at es i)
  list-at es cs i lt = ap (λ r. r.items) (row-at es cs i lt)

  pub cap-at : (es : List Chunk) (cs : List (Option X)) (i : ℕ) → i < length es → cap_at (rows_in es cs) i ≡ (chunk_at es i).cap
  cap-at es cs i lt = ap (λ r. r.cap) (row-at es cs i lt)

  -- a row in other places that hold the same run
  moved_row : (cs ds : List (Option X)) (e : Chunk) → length ds ≡ length cs → take e.len (drop e.start ds) ≡ take e.len (drop e.start cs) → IsRowIn cs e → IsRowIn ds e
  moved_row cs ds e long same h = record {
    within = h.within;
    inside = omega (arith, h.inside);
    written = subst (λ l. l ≡ map Some (somes l)) (sym same) h.written;
  }

  new_row : (ds : List (Option X)) (e : Chunk) (xs : List X) → e.len ≤ e.cap → e.start + e.cap ≤ length ds → take e.len (drop e.start ds) ≡ map Some xs → IsRowIn ds e × (values ds e ≡ xs)
  new_row ds e xs within inside written =
      let is : values ds e ≡ xs = ap somes written ∙ somes-map xs in
      (record { within = within; inside = inside; written = written ∙ ap (map Some) (sym is) }, is)

  module _ (es : List Chunk) (cs ds : List (Option X)) (i : ℕ) (e : Chunk) (h : IsLaidOut es cs) (lt : i < length es)
      (start : e.start ≡ (chunk_at es i).start) (cap : e.cap ≡ (chunk_at es i).cap) (long : length ds ≡ length cs)
      (outside : (s n : ℕ) → (s + n ≤ e.start) ⊎ (e.start + e.cap ≤ s) → take n (drop s ds) ≡ take n (drop s cs)) where
    others : (j : ℕ) → j < length es → j ≢ i → take (chunk_at es j).len (drop (chunk_at es j).start ds) ≡ take (chunk_at es j).len (drop (chunk_at es j).start cs)
    others j lj ne =
        let row = h.each j lj in let x = chunk_at es j in let y = chunk_at es i in
        elim (cases_order j i) [
          | inl same ↦ absurd (ne same)
          | inr order ↦ elim order [
            | inl less ↦ let before = h.apart j i less lt in outside x.start x.len (inl (omega (arith, row.within)))
            | inr more ↦ let behind = h.apart i j more lj in outside x.start x.len (inr (omega arith))
          ]
        ]

    module _ (within : e.len ≤ e.cap) (xs : List X) (written : take e.len (drop e.start ds) ≡ map Some xs) where
      new : IsRowIn ds e × (values ds e ≡ xs)
      new = new_row ds e xs within (omega (arith, (h.each i lt).inside)) written

      at : (j : ℕ) → ((j ≡ i) × (chunk_at (set es i e) j ≡ e)) ⊎ ((j ≢ i) × (chunk_at (set es i e) j ≡ chunk_at es j))
      at j = elim (cases_order j i) [
        | inl same ↦ inl (same, ap (chunk_at (set es i e)) same ∙ get_or-set_same es i e blank lt)
        | inr order ↦ let ne : j ≢ i = (λ same. elim order [ inl a ↦ let n : ⊥ = omega arith in n | inr b ↦ let n : ⊥ = omega arith in n ]) in inr (ne, get_or-set_other es i j e blank ne)
      ]

      -- a row keeps its place and its capacity
      kept : (j : ℕ) → ((chunk_at (set es i e) j).start ≡ (chunk_at es j).start) × ((chunk_at (set es i e) j).cap ≡ (chunk_at es j).cap)
      kept j = elim (at j) [
        | inl here ↦ (ap (λ x. x.start) here.1 ∙ start ∙ ap (λ k. (chunk_at es k).start) (sym here.0), ap (λ x. x.cap) here.1 ∙ cap ∙ ap (λ k. (chunk_at es k).cap) (sym here.0))
        | inr there ↦ (ap (λ x. x.start) there.1, ap (λ x. x.cap) there.1)
      ]

      relaid : IsLaidOut (set es i e) ds
      relaid = record {
        each = λ j lj. elim (at j) [
          | inl here ↦ subst (IsRowIn ds) (sym here.1) new.0
          | inr there ↦ let lj' : j < length es = omega (arith, length-set es i e) in
              subst (IsRowIn ds) (sym there.1) (moved_row cs ds (chunk_at es j) long (others j lj' there.0) (h.each j lj'))
        ];
        apart = λ j k lt' lk. let lk' : k < length es = omega (arith, length-set es i e) in omega (arith, h.apart j k lt' lk', (kept j).0, (kept j).1, (kept k).0);
        small = omega (arith, h.small);
      }

      rows : rows_in (set es i e) ds ≡ with_list (rows_in es cs) i xs
      rows =
          let f = λ (d : List (Option X)) (x : Chunk). row_of (values d x) x.cap in
          let r : Row X = row_of xs (cap_at (rows_in es cs) i) in
          let is : f ds e ≡ r = (λ k. row_of (new.1 k) ((cap ∙ sym (cap-at es cs i lt)) k)) in
          let as_long : length (set (map (f ds) es) i r) ≡ length (set (map (f cs) es) i r) = omega (arith, length-set (map (f ds) es) i r, length-set (map (f cs) es) i r, length-map es (f ds), length-map es (f cs)) in
          map-set (f ds) es i e ∙ ap (set (map (f ds) es) i) is
          ∙ ext_get_or none (set (map (f ds) es) i r) (set (map (f cs) es) i r) as_long (λ j lj.
          let lj' : j < length es = omega (arith, length-set (map (f ds) es) i r, length-map es (f ds)) in
          elim (cases_order j i) [
            | inl same ↦ let here : i < length (map (f ds) es) = omega (arith, length-map es (f ds)) in let here' : i < length (map (f cs) es) = omega (arith, length-map es (f cs)) in
                ap (λ k. get_or (set (map (f ds) es) i r) k none) same ∙ get_or-set_same (map (f ds) es) i r none here
                ∙ sym (ap (λ k. get_or (set (map (f cs) es) i r) k none) same ∙ get_or-set_same (map (f cs) es) i r none here')
            | inr order ↦ let ne : j ≢ i = (λ same. elim order [ inl a ↦ let n : ⊥ = omega arith in n | inr b ↦ let n : ⊥ = omega arith in n ]) in
                get_or-set_other (map (f ds) es) i j r none ne ∙ row-at es ds j lj'
                ∙ ap (λ l. row_of (somes l) (chunk_at es j).cap) (others j lj' ne)
                ∙ sym (get_or-set_other (map (f cs) es) i j r none ne ∙ row-at es cs j lj')
          ])

      -- one row has another list, and all else stays
      pub changed : IsLaidOut (set es i e) ds × (rows_in (set es i e) ds ≡ with_list (rows_in es cs) i xs)
      changed = (relaid, rows)
