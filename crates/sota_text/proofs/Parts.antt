-- The first part of a list that is cut at the elements that pass a test.
use Rattle.std.proofs.Common.{◌≡◌, ℕ, ◌+◌, ◌-◌, ◌<◌, ◌≤◌, suc, List, [], ◌∷◌, Bool, true, false, cond, not, length, take, drop, get_or, refl, ◌∙◌, ap, arith, length-drop, drop-drop}
use Rattle.std.proofs.lemmas.List.{get_or-drop}
use Rattle.std.specs.List.{slice_split, onto_first, position_or_len}
use Rattle.std.proofs.lemmas.List.Splits.{slice_split_first}
use Rattle.std.proofs.lemmas.List.Sums.{position_or_len_is}

-- there is always a first part
pub some_part : (p : ℕ → Bool) (xs : List ℕ) → (y : List ℕ) × (ys : List (List ℕ)) × (slice_split p xs ≡ y ∷ ys)
some_part p [] = ([], [], refl)
some_part p (x ∷ xs) =
    let rest = some_part p xs in
    elim (p x) as (λ b. (y : List ℕ) × (ys : List (List ℕ)) × (cond b ([] ∷ slice_split p xs) (onto_first x (slice_split p xs)) ≡ y ∷ ys)) [
      | true ↦ ([], slice_split p xs, refl)
      | false ↦ (x ∷ rest.0, rest.1, ap (onto_first x) rest.2)
    ]

one_part : (p : ℕ → Bool) (xs : List ℕ) → length xs ≤ position_or_len p xs → slice_split p xs ≡ xs ∷ []
one_part p [] h = refl
one_part p (x ∷ xs) h =
    elim (p x) as (λ b. suc (length xs) ≤ cond (not b) (1 + position_or_len p xs) 0 → cond b ([] ∷ slice_split p xs) (onto_first x (slice_split p xs)) ≡ (x ∷ xs) ∷ []) [
      | true ↦ λ h. absurd (omega arith)
      | false ↦ λ h. ap (onto_first x) (one_part p xs (omega arith))
    ] h

-- none passes from one place to another, where one passes or the list ends
pub record EndsAt (p : ℕ → Bool) (xs : List ℕ) (start stop : ℕ) : Type 0 where
  pub order : start ≤ stop
  pub inside : stop ≤ length xs
  pub none : (k : ℕ) → start ≤ k → k < stop → p (get_or xs k 0) ≡ false
  pub passes : stop < length xs → p (get_or xs stop 0) ≡ true

first_passing : (p : ℕ → Bool) (xs : List ℕ) (start stop : ℕ) → EndsAt p xs start stop → position_or_len p (drop start xs) ≡ stop - start
first_passing p xs start stop ends =
    position_or_len_is p (drop start xs) (stop - start) 0 (omega (arith, length-drop start xs))
    (λ k below. rw get_or-drop (ends.none (start + k) (omega arith) (omega arith)))
    (λ inside. let there : start + (stop - start) ≡ stop = omega arith in rw (get_or-drop, there) (ends.passes (omega (arith, length-drop start xs))))

-- a part up to the end
pub last_part : (p : ℕ → Bool) (xs : List ℕ) (start stop : ℕ) → EndsAt p xs start stop → stop ≡ length xs → slice_split p (drop start xs) ≡ drop start xs ∷ []
last_part p xs start stop ends e =
    let size = length-drop start xs in
    let at = first_passing p xs start stop ends in
    one_part p (drop start xs) (omega (arith, size, at))

-- a part with another after it
pub inner_part : (p : ℕ → Bool) (xs : List ℕ) (start stop : ℕ) → EndsAt p xs start stop → stop < length xs
    → slice_split p (drop start xs) ≡ take (stop - start) (drop start xs) ∷ slice_split p (drop (stop + 1) xs)
inner_part p xs start stop ends e =
    let size = length-drop start xs in
    let at = first_passing p xs start stop ends in
    let there : start + (stop - start + 1) ≡ stop + 1 = omega arith in
    slice_split_first p (drop start xs) 0 (omega (arith, size, at))
    ∙ ap (λ n. take n (drop start xs) ∷ slice_split p (drop (n + 1) (drop start xs))) at
    ∙ ap (λ rest. take (stop - start) (drop start xs) ∷ slice_split p rest) (drop-drop (stop - start + 1) start xs ∙ ap (λ n. drop n xs) there)
