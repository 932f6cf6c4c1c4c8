-- A loop over the nodes that makes first affected budgets of least times.
use Rattle.std.proofs.Common.{ℕ, ◌≡◌, ◌≢◌, ◌+◌, ◌-◌, ◌<◌, ◌≤◌, List, length, get_or, set, Option, None, refl, sym, ◌∙◌, ap, arith, ⊎_elim}
use Rattle.std.proofs.Math.ListN.{length-set}
use Rattle.std.proofs.lemmas.List.{get_or-set_same, get_or-set_other, get_or_default}
use Rattle.std.proofs.lemmas.Bool.{cases_eq}
use Rattle.sota_network.specs.declared.network.Arc.{Arc}
use Rattle.sota_kept.specs.Edits.{first_affected_by}
use Rattle.sota_bounds.specs.Search.{time_at}

module _ (dest : ℕ) (arc : Arc) (first : ℕ) (onward : Option ℕ) where
  -- so many nodes are done, and the others have their times still
  pub record IsAdded (index : ℕ) (old new : List (Option ℕ)) : Type 0 where
    pub count : length new ≡ length old
    pub done : (i : ℕ) → 1 ≤ i → i ≤ index → time_at new i ≡ first_affected_by dest arc first i (time_at old i) onward
    pub rest : (i : ℕ) → index < i → time_at new i ≡ time_at old i

  pub add-none : (old : List (Option ℕ)) → IsAdded 0 old old
  add-none old = record { count = refl; done = λ i low high. absurd (let none : ⊥ = omega (arith, low, high) in none); rest = λ i h. refl }

  pub add-one : (index : ℕ) (old new : List (Option ℕ)) (to found : Option ℕ) → IsAdded index old new → index < length new → to ≡ get_or new index to
      → found ≡ first_affected_by dest arc first (index + 1) to onward → IsAdded (index + 1) old (set new index found)
  add-one index old new to found is within read value =
      let place : index + 1 - 1 ≡ index = omega arith in
      let before : time_at old (index + 1) ≡ to =
      sym (is.rest (index + 1) (let h : index < index + 1 = omega arith in h)) ∙ ap (λ (j : ℕ). get_or new j None) place ∙ get_or_default new index None to within ∙ sym read in
      let here : time_at (set new index found) (index + 1) ≡ first_affected_by dest arc first (index + 1) (time_at old (index + 1)) onward =
      ap (λ (j : ℕ). get_or (set new index found) j None) place ∙ get_or-set_same new index found None within ∙ value
      ∙ ap (λ (time : Option ℕ). first_affected_by dest arc first (index + 1) time onward) (sym before) in
      let elsewhere : (i : ℕ) → 1 ≤ i → i ≢ index + 1 → time_at (set new index found) i ≡ time_at new i =
      λ i low apart. get_or-set_other new index (i - 1) found None (λ e. apart (omega arith)) in
      record {
        count = length-set new index found ∙ is.count;
        done = λ i low high.
            ⊎_elim
            (λ (same : i ≡ index + 1). rw same here)
            (λ (apart : i ≡ index + 1 → ⊥). elsewhere i low apart ∙ is.done i low (let h : i ≤ index = omega (arith, high, apart) in h))
            (cases_eq i (index + 1));
        rest = λ i h. elsewhere i (let low : 1 ≤ i = omega (arith, h) in low) (λ e. omega (arith, h, e)) ∙ is.rest i (let more : index < i = omega (arith, h) in more);
      }
