-- Lists over a range of numbers, one number more.
use Rattle.std.proofs.Common.{ℕ, zero, suc, ◌≡◌, ◌+◌, ◌-◌, ◌≤◌, List, [], ◌∷◌, ◌++◌, map, Option, refl, ◌∙◌, ap, arith}
use Rattle.std.specs.List.{filter_map, cons_option, range_with_len}
use Rattle.std.proofs.lemmas.List.Elements.{filter_map-append}
use Rattle.std.proofs.lemmas.List.FromFn.{map-range_with_len_more}

pub range-more : (a n : ℕ) → range_with_len a (n + 1) ≡ range_with_len a n ++ (a + n) ∷ []
range-more a zero = let here : a + 0 ≡ a = omega arith in rw here refl
range-more a (suc n) =
    let rest : range_with_len (a + 1) (n + 1) ≡ range_with_len (a + 1) n ++ (a + 1 + n) ∷ [] = range-more (a + 1) n in
    let last : a + 1 + n ≡ a + suc n = omega arith in
    let longer : suc n + 1 ≡ suc (n + 1) = omega arith in
    ap (range_with_len a) longer ∙ ap (λ (xs : List ℕ). a ∷ xs) (rest ∙ ap (λ (k : ℕ). range_with_len (a + 1) n ++ k ∷ []) last)

pub mapped_more : {X : Type 0} (f : ℕ → X) (from to : ℕ) → from ≤ to → map f (range_with_len from (to + 1 - from)) ≡ map f (range_with_len from (to - from)) ++ f to ∷ []
mapped_more f from to before =
    let length : to + 1 - from ≡ to - from + 1 = omega arith in
    ap (λ (n : ℕ). map f (range_with_len from n)) length ∙ map-range_with_len_more f from (to - from) to (omega arith)

pub found_more : {X : Type 0} (f : ℕ → Option X) (to : ℕ) → 1 ≤ to → filter_map f (range_with_len 1 (to + 1 - 1)) ≡ filter_map f (range_with_len 1 (to - 1)) ++ cons_option (f to) []
found_more f to positive =
    let length : to + 1 - 1 ≡ to - 1 + 1 = omega arith in
    let last : 1 + (to - 1) ≡ to = omega arith in
    ap (λ (n : ℕ). filter_map f (range_with_len 1 n)) length
    ∙ ap (filter_map f) (range-more 1 (to - 1))
    ∙ filter_map-append f (range_with_len 1 (to - 1)) ((1 + (to - 1)) ∷ [])
    ∙ ap (λ (k : ℕ). filter_map f (range_with_len 1 (to - 1)) ++ cons_option (f k) []) last
