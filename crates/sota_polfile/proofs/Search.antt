-- A binary search among rows in rising nodes ends at the row of a node, if there is one.
use Rattle.std.proofs.Common.{◌≡◌, ◌==◌, ℕ, zero, suc, ◌+◌, ◌<◌, ◌≤◌, Bool, true, false, List, [], ◌∷◌, length, get_or, Some, None, Result, Ok, Err, IfOk, IfErr, OnErr, slice_get, Less, Greater, inl, inr, refl, sym, ◌∙◌, subst, arith}
use Rattle.std.specs.List.{find}
use Rattle.std.specs.List.Sorted.{IsStrictlyIncreasing, IsSearchInRange, IsBinarySearchResult, IsNonDecreasingBy}
use Rattle.std.specs.Ordering.{nat_cmp, ordering_index}
use Rattle.std.proofs.lemmas.Cmp.{ranked}
use Rattle.std.proofs.lemmas.Bool.{cases_lt, eq-eqb, ne_eqb}
use Rattle.std.proofs.lemmas.Bool.Decides.{nat_tests}
use Rattle.std.proofs.lemmas.List.{length-map, get_or-map}
use Rattle.std.proofs.lemmas.Option.{slice_get-get_or, slice_get_cases, slice_get_within, get_or_from_slice_get}
use Rattle.std.proofs.lemmas.List.Sorted.{IsNonDecreasingBy-from_all_adjacent}
use Rattle.sota_polfile.specs.declared.row.PolicyRow.{PolicyRow}
use Rattle.sota_polfile.specs.Table.{nodes}

find_at : (p : PolicyRow → Bool) (rows : List PolicyRow) (at : ℕ) (d : PolicyRow) → at < length rows → p (get_or rows at d) ≡ true → ((j : ℕ) → j < at → p (get_or rows j d) ≡ false) → find p rows ≡ Some (get_or rows at d)
find_at p [] at d lt yes-at before = absurd (omega arith)
find_at p (row ∷ rows) zero d lt yes-at before = rw yes-at refl
find_at p (row ∷ rows) (suc at) d lt yes-at before = rw (before 0 (omega arith)) (find_at p rows at d (omega arith) yes-at (λ j under. before (suc j) (omega arith)))

pub find_nowhere : (p : PolicyRow → Bool) (rows : List PolicyRow) → ((j : ℕ) (d : PolicyRow) → j < length rows → p (get_or rows j d) ≡ false) → find p rows ≡ None
find_nowhere p [] never = refl
find_nowhere p (row ∷ rows) never = rw (never 0 row (omega arith)) (find_nowhere p rows (λ j d under. never (suc j) d (omega arith)))

module _ (rows : List PolicyRow) (rising : IsStrictlyIncreasing (nodes rows)) where
  next_above : (k : ℕ) (d : PolicyRow) → k + 1 < length rows → (get_or rows k d).node < (get_or rows (k + 1) d).node
  next_above k d lt =
      let e0 = get_or-map (λ (row : PolicyRow). row.node) rows k d 0 (omega arith) in
      let e1 = get_or-map (λ (row : PolicyRow). row.node) rows (k + 1) d 0 lt in
      rw (e0, e1) at (rising k (omega (arith, length-map rows (λ (row : PolicyRow). row.node))))

  pub rise : IsNonDecreasingBy (λ (row : PolicyRow). row.node) rows
  rise = IsNonDecreasingBy-from_all_adjacent (λ (row : PolicyRow). row.node) rows (λ k d lt. omega (arith, next_above k d lt))

  below_at : (j at : ℕ) (d : PolicyRow) → j < at → at < length rows → (get_or rows j d).node < (get_or rows at d).node
  below_at j at d lt within = omega (arith, next_above j d (omega arith), rise (j + 1) at d (omega arith) within)

  comparisons_rise : (node : ℕ) → IsNonDecreasingBy (λ row. ordering_index (nat_cmp row.node node)) rows
  comparisons_rise node i j d le within = let up = rise i j d le within in grind (arith, nat_tests)

  -- what a binary search of the node says of the first row with that node
  pub record Searched (node : ℕ) (r : Result ℕ ℕ) : Type 0 where
    pub within : IfOk r (λ at. at < length rows)
    pub found : IfOk r (λ at. find (λ row. row.node == node) rows ≡ slice_get rows at)
    pub absent : OnErr r (find (λ row. row.node == node) rows ≡ None)
    pub between : IfErr r (λ at. (k : ℕ) (row : PolicyRow) → slice_get rows k ≡ Some row → (k < at → row.node < node) × (at ≤ k → node < row.node))
    pub end : IfErr r (λ at. at ≤ length rows)

  pub searched : (node : ℕ) (r : Result ℕ ℕ) → IsSearchInRange r (length rows) → IsBinarySearchResult (λ row. nat_cmp row.node node) rows r → Searched node r
  searched node (Ok at) within equal = record { within = within; found = found; absent = tt; between = tt; end = tt }
    where
      is : (d : PolicyRow) → (get_or rows at d).node ≡ node
      is d = ranked _ node _ (sym (equal d))

      found_by : (d : PolicyRow) → find (λ row. row.node == node) rows ≡ slice_get rows at
      found_by d = find_at (λ row. row.node == node) rows at d within (eq-eqb _ _ (is d)) (λ j lt. ne_eqb _ _ (λ same. absurd (omega (arith, below_at j at d lt within, is d, same)))) ∙ sym (slice_get-get_or rows at d within)

      found : find (λ row. row.node == node) rows ≡ slice_get rows at
      found = elim (slice_get_cases rows at).1 [ inl here ↦ found_by here.0 | inr past ↦ absurd (omega arith) ]
  searched node (Err at) within parted = record {
    within = tt;
    found = tt;
    absent = find_nowhere (λ row. row.node == node) rows (λ j d lt. ne_eqb _ _ (λ same. absurd (elsewhere j d lt same)));
    between = λ k row is.
        let inside : k < length rows = slice_get_within rows k row is in
        let same : get_or rows k row ≡ row = get_or_from_slice_get rows k row row is in
        (λ under. subst (λ (r : PolicyRow). r.node < node) same (below k row under), λ over. subst (λ (r : PolicyRow). node < r.node) same (above k row over inside));
    end = within;
  }
    where
      below : (j : ℕ) (d : PolicyRow) → j < at → (get_or rows j d).node < node
      below j d under =
          let less : nat_cmp (get_or rows j d).node node ≡ Less = (parted (comparisons_rise node)).0 j d (omega (arith, within)) under in
          grind (arith, nat_tests)

      above : (j : ℕ) (d : PolicyRow) → at ≤ j → j < length rows → node < (get_or rows j d).node
      above j d over lt =
          let more : nat_cmp (get_or rows j d).node node ≡ Greater = (parted (comparisons_rise node)).1 j d over lt in
          grind (arith, nat_tests)

      elsewhere : (j : ℕ) (d : PolicyRow) → j < length rows → (get_or rows j d).node ≡ node → ⊥
      elsewhere j d lt same = elim (cases_lt j at) [
        | inl under ↦ omega (arith, below j d under)
        | inr over ↦ omega (arith, above j d over lt)
      ]
