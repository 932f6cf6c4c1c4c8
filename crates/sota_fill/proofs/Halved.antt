-- A list of which a beginning and what follows it were given anew.
use Rattle.std.proofs.Common.{ℕ, ◌≡◌, ◌-◌, ◌<◌, ◌≤◌, ◌++◌, List, length, slice_index, take, drop, length-take, length-append, ◌∙◌, arith}
use Rattle.std.proofs.lemmas.List.{get_or_append_left, get_or-append_right, get_or-take}

module _ (early : ℕ) (front old back rest : List ℕ) (long : length front ≡ early) where
  abbrev pub whole : List ℕ
  whole = take early (front ++ drop early old) ++ (back ++ rest)

  taken : length (take early (front ++ drop early old)) ≡ early
  taken =
      let more : early ≤ length (front ++ drop early old) = omega (arith, long, length-append front (drop early old)) in
      omega (arith, more, length-take early (front ++ drop early old))

  -- what the beginning holds
  pub front-at : (x : ℕ) → x < early → slice_index whole x ≡ slice_index front x
  front-at x less =
      get_or_append_left (take early (front ++ drop early old)) (back ++ rest) 0 x (omega (arith, taken))
      ∙ get_or-take early (front ++ drop early old) x 0 less
      ∙ get_or_append_left front (drop early old) 0 x (omega (arith, long))

  -- and what follows it
  pub back-at : (x : ℕ) → early ≤ x → x - early < length back → slice_index whole x ≡ slice_index back (x - early)
  back-at x low less =
      get_or-append_right (take early (front ++ drop early old)) (back ++ rest) early x 0 taken low
      ∙ get_or_append_left back rest 0 (x - early) less
