-- Rows that move from one bank to another, one at a time.
use Rattle.std.proofs.Common.{◌≡◌, ◌≢◌, ℕ, ◌+◌, ◌<◌, ◌≤◌, inl, inr, List, [], ◌∷◌, length, set, get_or, refl, sym, ap, ◌∙◌, arith, length-set, get_or-set_same, get_or-set_other, ext_get_or}
use Rattle.std.proofs.lemmas.List.{length-map, get_or-map, map-set, set-get_or}
use Rattle.std.proofs.lemmas.Bool.{cases_order}
use Rattle.sota_bank.specs.Rows.{Row, row_of, list_at, cap_at, with_list, lists, capacities, empty_rows}

pub capacities_empty : (X : Type 0) (caps : List ℕ) → capacities (empty_rows {X = X} caps) ≡ caps
capacities_empty X [] = refl
capacities_empty X (n ∷ caps) = ap (λ l. n ∷ l) (capacities_empty X caps)

module _ {X : Type 0} where
  abbrev none : Row X
  none = row_of [] 0

  -- the lists of the first i rows of old are in grown, and the others are where they were
  pub record Moved (old now grown : List (Row X)) (caps : List ℕ) (i : ℕ) : Type 0 where
    pub caps_are : capacities grown ≡ caps
    pub as_many : length now ≡ length caps
    pub moved : (j : ℕ) → j < i → list_at grown j ≡ list_at old j
    pub left : (j : ℕ) → i ≤ j → list_at now j ≡ list_at old j

  module _ (rows : List (Row X)) (i : ℕ) (xs : List X) (lt : i < length rows) where
    pub list_at-with_list_same : list_at (with_list rows i xs) i ≡ xs
    list_at-with_list_same = ap (λ r. r.items) (get_or-set_same rows i (row_of xs (cap_at rows i)) none lt)

    pub capacities-with_list : capacities (with_list rows i xs) ≡ capacities rows
    capacities-with_list =
        map-set (λ (r : Row X). r.cap) rows i (row_of xs (cap_at rows i)) ∙ ap (set (capacities rows) i) (sym (get_or-map (λ (r : Row X). r.cap) rows i none 0 lt)) ∙ set-get_or (capacities rows) i 0

  pub list_at-with_list_other : (rows : List (Row X)) (i j : ℕ) (xs : List X) → j ≢ i → list_at (with_list rows i xs) j ≡ list_at rows j
  list_at-with_list_other rows i j xs ne = ap (λ r. r.items) (get_or-set_other rows i j (row_of xs (cap_at rows i)) none ne)

  module _ (old now grown : List (Row X)) (caps : List ℕ) (i : ℕ) (h : Moved old now grown caps i) where
    pub long : length grown ≡ length caps
    long = sym (length-map grown (λ (r : Row X). r.cap)) ∙ ap length h.caps_are

    pub capacity : i < length caps → cap_at grown i ≡ get_or caps i 0
    capacity lt = let lt' : i < length grown = omega (arith, long) in sym (get_or-map (λ (r : Row X). r.cap) grown i none 0 lt') ∙ ap (λ l. get_or l i 0) h.caps_are

    pub moves : i < length caps → Moved old (with_list now i []) (with_list grown i (list_at now i)) caps (i + 1)
    moves lt =
        let lt' : i < length grown = omega (arith, long) in let xs = list_at now i in let here : i ≤ i = omega arith in
        record {
          caps_are = capacities-with_list grown i xs lt' ∙ h.caps_are;
          as_many = length-set now i (row_of [] (cap_at now i)) ∙ h.as_many;
          moved = λ j lj. elim (cases_order j i) [
            | inl same ↦ ap (list_at (with_list grown i xs)) same ∙ list_at-with_list_same grown i xs lt' ∙ h.left i here ∙ ap (list_at old) (sym same)
            | inr order ↦ elim order [
              | inl less ↦ let ne : j ≢ i = omega arith in list_at-with_list_other grown i j xs ne ∙ h.moved j less
              | inr more ↦ let n : ⊥ = omega arith in absurd n
            ]
          ];
          left = λ j le. let ne : j ≢ i = omega arith in let le' : i ≤ j = omega arith in list_at-with_list_other now i j [] ne ∙ h.left j le';
        }

    pub all_moved : i ≡ length caps → length old ≡ length caps → lists grown ≡ lists old
    all_moved end as_long =
        let items = λ (r : Row X). r.items in
        ext_get_or [] (lists grown) (lists old) (omega (arith, long, length-map grown items, length-map old items)) (λ j lj.
        let lg : j < length grown = omega (arith, length-map grown items) in let lo : j < length old = omega (arith, long) in let lt : j < i = omega (arith, long) in
        get_or-map items grown j none [] lg ∙ h.moved j lt ∙ sym (get_or-map items old j none [] lo))
