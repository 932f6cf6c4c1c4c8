-- A stretch of a list, before and after what it holds is changed.
use Rattle.std.proofs.Common.{◌≡◌, ℕ, ◌+◌, ◌-◌, ◌<◌, ◌≤◌, ◌++◌, List, length, get_or, take, drop, ap, ◌∙◌, ⊎_elim, arith, length-take, length-drop, get_or-take, get_or-drop}
use Rattle.std.proofs.lemmas.Bool.{cases_lt}
use Rattle.std.proofs.Math.Seq.{get_or-append_right}
use Rattle.std.proofs.lemmas.List.{get_or_append_left}

pub sub_at : (at n k : ℕ) (xs : List ℕ) → k < n → get_or (take n (drop at xs)) k 0 ≡ get_or xs (at + k) 0
sub_at at n k xs inside = get_or-take n (drop at xs) k 0 inside ∙ get_or-drop at xs k 0

-- a stretch of a list whose places are changed
module _ (at n : ℕ) (xs ys : List ℕ) (room : at + n ≤ length xs) (same : length ys ≡ length (take n (drop at xs))) where
  abbrev put : List ℕ
  put = take at xs ++ (ys ++ drop n (drop at xs))

  long : length (take at xs) ≡ at
  long = omega (arith, length-take at xs)

  long' : length ys ≡ n
  long' = omega (arith, length-take n (drop at xs), length-drop at xs)

  pub stretch_new : (k : ℕ) → k < n → get_or put (at + k) 0 ≡ get_or ys k 0
  stretch_new k inside =
      let there : at + k - length (take at xs) ≡ k = omega (arith, long) in
      get_or-append_right (take at xs) (ys ++ drop n (drop at xs)) (at + k) 0 (omega (arith, long)) ∙ ap (λ (i : ℕ). get_or (ys ++ drop n (drop at xs)) i 0) there ∙ get_or_append_left ys (drop n (drop at xs)) 0 k (omega (arith, long'))

  pub stretch_before : (k : ℕ) → k < at → get_or put k 0 ≡ get_or xs k 0
  stretch_before k early = get_or_append_left (take at xs) (ys ++ drop n (drop at xs)) 0 k (omega (arith, long)) ∙ get_or-take at xs k 0 early

  pub stretch_after : (k : ℕ) → at + n ≤ k → get_or put k 0 ≡ get_or xs k 0
  stretch_after k late =
      let there : k - length (take at xs) ≡ k - at = omega (arith, long) in
      let there' : k - at - length ys ≡ k - at - n = omega (arith, long') in
      let back : at + (n + (k - at - n)) ≡ k = omega arith in
      get_or-append_right (take at xs) (ys ++ drop n (drop at xs)) k 0 (omega (arith, long)) ∙ ap (λ (i : ℕ). get_or (ys ++ drop n (drop at xs)) i 0) there
      ∙ get_or-append_right ys (drop n (drop at xs)) (k - at) 0 (omega (arith, long')) ∙ ap (λ (i : ℕ). get_or (drop n (drop at xs)) i 0) there'
      ∙ get_or-drop n (drop at xs) (k - at - n) 0 ∙ get_or-drop at xs (n + (k - at - n)) 0 ∙ ap (λ (i : ℕ). get_or xs i 0) back

  -- what holds of the places before and of those of the stretch
  pub stretch_all : (f : ℕ → ℕ) → ((k : ℕ) → k < at → get_or xs k 0 ≡ f k) → ((k : ℕ) → k < n → get_or ys k 0 ≡ f (at + k)) → (k : ℕ) → k < at + n → get_or put k 0 ≡ f k
  stretch_all f before inside k below =
      ⊎_elim (λ (early : k < at). stretch_before k early ∙ before k early)
      (λ (from : at ≤ k). let there : at + (k - at) ≡ k = omega arith in rw there at (stretch_new (k - at) (omega arith) ∙ inside (k - at) (omega arith)))
      (cases_lt k at)
