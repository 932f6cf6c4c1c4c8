-- Empty rows, one after another.
use Rattle.std.proofs.Common.{◌≡◌, ℕ, ◌+◌, ◌^◌, ◌<◌, ◌≤◌, inl, inr, List, [], ◌∷◌, ◌++◌, length, map, take, drop, get_or, sum, replicate, sym, ap, ◌∙◌, subst, arith, length-append, length-take, take-take, get_or-take, take_at, take_all, ext_get_or, refl, Option, None, Some}
use Rattle.std.proofs.lemmas.List.{length-map, length-replicate, get_or-map, get_or_append_left, get_or_push, map_push, take-append-le}
use Rattle.std.proofs.lemmas.List.Sums.{sum_by_more_le}
use Rattle.std.proofs.lemmas.Bool.{cases_order}
use Rattle.sota_bank.specs.declared.bank.Chunk.{Chunk}
use Rattle.sota_bank.specs.Rows.{Row, row_of, empty_rows}
use Rattle.sota_bank.specs.Places.{somes}
use Rattle.sota_bank.specs.Layout.{chunk_at, values, rows_in, IsLaidOut, AreEmpty}

abbrev blank : Chunk
blank = record { start = 0; len = 0; cap = 0 }

module _ (es : List Chunk) (caps : List ℕ) (h : AreEmpty es caps) where
  pub as_many : length es ≡ length caps
  as_many = sym (length-map es (λ e. e.cap)) ∙ ap length h.caps_are

  cap-at : (i : ℕ) → i < length es → (chunk_at es i).cap ≡ get_or caps i 0
  cap-at i lt = sym (get_or-map (λ e. e.cap) es i blank 0 lt) ∙ ap (λ l. get_or l i 0) h.caps_are

  -- one more row, behind the others
  pub one_more : (at c : ℕ) → at ≡ sum caps → AreEmpty (es ++ record { start = at; len = 0; cap = c } ∷ []) (caps ++ c ∷ [])
  one_more at c total =
      let e : Chunk = record { start = at; len = 0; cap = c } in let all = es ++ e ∷ [] in
      let last : chunk_at all (length es) ≡ e = get_or_push es e blank (length es) refl in
      let earlier = λ (i : ℕ) (lt : i < length es). get_or_append_left es (e ∷ []) blank i lt in
      record {
        caps_are = map_push (λ x. x.cap) es e ∙ ap (λ l. l ++ c ∷ []) h.caps_are;
        empty = λ i lt. elim (cases_order i (length es)) [
          | inl same ↦ ap (λ k. (chunk_at all k).len) same ∙ ap (λ x. x.len) last
          | inr order ↦ elim order [
            | inl less ↦ ap (λ x. x.len) (earlier i less) ∙ h.empty i less
            | inr more ↦ let n : ⊥ = omega (arith, length-append es (e ∷ [])) in absurd n
          ]
        ];
        next = λ i lt. elim (cases_order i (length es)) [
          | inl same ↦ let long : length caps ≡ i = sym as_many ∙ sym same in
              ap (λ k. (chunk_at all k).start) same ∙ ap (λ x. x.start) last ∙ total ∙ ap sum (sym (take_at caps (c ∷ []) i long))
          | inr order ↦ elim order [
            | inl less ↦ let within : i ≤ length caps = omega (arith, as_many) in
                ap (λ x. x.start) (earlier i less) ∙ h.next i less ∙ ap sum (sym (take-append-le i caps (c ∷ []) within))
            | inr more ↦ let n : ⊥ = omega (arith, length-append es (e ∷ [])) in absurd n
          ]
        ];
      }

-- the sum up to an index and what stands there is within a longer sum
pub up_to : (caps : List ℕ) (i j : ℕ) → i < j → j ≤ length caps → sum (take i caps) + get_or caps i 0 ≤ sum (take j caps)
up_to caps i j lt within =
    let lt' : i < length (take j caps) = omega (arith, length-take j caps) in let le : i ≤ j = omega arith in
    let h = sum_by_more_le (λ x. x) (take j caps) i 0 lt' in
    subst (λ (p : List ℕ × ℕ). sum p.0 + p.1 ≤ sum (take j caps)) (λ k. (take-take i j caps le k, get_or-take j caps i 0 lt k)) h

pub within_total : (caps : List ℕ) (i : ℕ) → i < length caps → sum (take i caps) + get_or caps i 0 ≤ sum caps
within_total caps i lt = let here : length caps ≤ length caps = omega arith in subst (λ l. sum (take i caps) + get_or caps i 0 ≤ sum l) (take_all (length caps) caps here) (up_to caps i (length caps) lt here)

module _ {X : Type 0} (es : List Chunk) (caps : List ℕ) (h : AreEmpty es caps) where
  abbrev places : List (Option X)
  places = replicate (sum caps) None

  no_values : (i : ℕ) → i < length es → take (chunk_at es i).len (drop (chunk_at es i).start places) ≡ []
  no_values i lt = ap (λ n. take n (drop (chunk_at es i).start places)) (h.empty i lt)

  pub laid : sum caps ≤ 2 ^ 31 → IsLaidOut es places
  laid few = record {
    each = λ i lt. let lt' : i < length caps = omega (arith, as_many es caps h) in record {
      within = omega (arith, h.empty i lt);
      inside = omega (arith, h.next i lt, cap-at es caps h i lt, within_total caps i lt', length-replicate {A = Option X} (sum caps) None);
      written = no_values i lt ∙ ap (λ l. map Some (somes l)) (sym (no_values i lt));
    };
    apart = λ i j lt lj. let li : i < length es = omega arith in let lj' : j ≤ length caps = omega (arith, as_many es caps h) in
        omega (arith, h.next i li, cap-at es caps h i li, h.next j lj, up_to caps i j lt lj');
    small = omega (arith, few, length-replicate {A = Option X} (sum caps) None);
  }

  pub rows_empty : rows_in es places ≡ empty_rows {X = X} caps
  rows_empty =
      let f = λ (e : Chunk). row_of (values places e) e.cap in let g = λ (n : ℕ). row_of {X = X} [] n in let d : Row X = row_of [] 0 in
      ext_get_or d (map f es) (map g caps) (omega (arith, length-map es f, length-map caps g, as_many es caps h)) (λ i lt.
      let li : i < length es = omega (arith, length-map es f) in let lc : i < length caps = omega (arith, as_many es caps h) in
      get_or-map f es i blank d li ∙ (λ k. row_of (somes (no_values i li k)) (cap-at es caps h i li k)) ∙ sym (get_or-map g caps i 0 d lc))
