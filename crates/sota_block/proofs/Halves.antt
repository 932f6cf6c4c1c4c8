-- The product of two blocks from three products of half the length: of the low halves, of the high halves, and of the
-- halves' sums.
use Rattle.std.proofs.Common.{◌≡◌, ℕ, ◌+◌, ◌-◌, ◌<◌, ◌≤◌, cond, ltb, List, length, get_or, take, drop, refl, sym, ap, ◌∙◌, ⊎_elim, arith, length-take, length-drop, length-append, ◌++◌, get_or-take, get_or-drop}
use Rattle.std.proofs.lemmas.Bool.{cases_lt}
use Rattle.std.proofs.lemmas.Bool.Decides.{nat_tests}
use Rattle.std.proofs.lemmas.List.{get_or_past, get_or_append_left, get_or-append_right}
use Rattle.sota_block.specs.Product.{coefficient}
use Rattle.sota_block.proofs.Convolution.{product_at, coefficient_is, product_at-same, product_at-plus, IsShifted, product_at-late-first, product_at-early-first, product_at-late-second, product_at-early-second}
use Rattle.sota_block.proofs.Limits.{coefficient-past}

-- f, after h places of 0
pub late : ℕ → (ℕ → ℕ) → ℕ → ℕ
late h f i = cond (ltb i h) 0 (f (i - h))

pub late-before : (h : ℕ) (f : ℕ → ℕ) (i : ℕ) → i < h → late h f i ≡ 0
unfolding late
late-before h f i before = grind (arith, nat_tests)

pub late-from : (h : ℕ) (f : ℕ → ℕ) (i : ℕ) → late h f (h + i) ≡ f i
unfolding late
late-from h f i =
    let place : h + i - h ≡ i = omega arith in
    rw place (grind (arith, nat_tests))

pub IsShifted-late : (h : ℕ) (f : ℕ → ℕ) → IsShifted h f (late h f)
IsShifted-late h f = (late-before h f, late-from h f)

-- a list is its first half, and then its second
pub get_or-halves : (h : ℕ) (xs : List ℕ) (i : ℕ) → get_or xs i 0 ≡ get_or (take h xs) i 0 + late h (λ j. get_or (drop h xs) j 0) i
get_or-halves h xs i =
    ⊎_elim (λ (before : i < h). rw (get_or-take h xs i 0 before, late-before h (λ j. get_or (drop h xs) j 0) i before) (omega arith)) (λ (from : h ≤ i).
    let place : h + (i - h) ≡ i = omega arith in
    let past = get_or_past (take h xs) i 0 (omega (arith, length-take h xs)) in
    let there = late-from h (λ j. get_or (drop h xs) j 0) (i - h) in
    let moved = get_or-drop h xs (i - h) 0 in
    let there' = rw place at there in
    let moved' = rw place at moved in
    omega arith) (cases_lt i h)

-- sums of two lists, place by place, are sums past the ends too
pub sums_everywhere : (left right into : List ℕ) → length left ≡ length into → length right ≡ length into
    → ((k : ℕ) → k < length into → get_or into k 0 ≡ get_or left k 0 + get_or right k 0) → (k : ℕ) → get_or into k 0 ≡ get_or left k 0 + get_or right k 0
sums_everywhere left right into same same' sums k =
    ⊎_elim (sums k) (λ past. rw (get_or_past into k 0 past, get_or_past left k 0 (omega arith), get_or_past right k 0 (omega arith)) refl) (cases_lt k (length into))

-- what stands at each place of a list's first h places, and of the rest
abbrev low : ℕ → List ℕ → ℕ → ℕ
low h xs i = get_or (take h xs) i 0

abbrev high : ℕ → List ℕ → ℕ → ℕ
high h xs i = get_or (drop h xs) i 0

module _ (h : ℕ) (xs ys sums sums' : List ℕ) (xs_long : length xs ≡ h + h) (ys_long : length ys ≡ h + h)
    (sums_are : (k : ℕ) → get_or sums k 0 ≡ low h xs k + high h xs k)
    (sums'_are : (k : ℕ) → get_or sums' k 0 ≡ low h ys k + high h ys k) where
  -- the whole product is the halves' products, each as late as its second halves are
  whole : (k : ℕ) → coefficient xs ys k ≡ (product_at (low h xs) (low h ys) k + product_at (low h xs) (late h (high h ys)) k)
      + (product_at (late h (high h xs)) (low h ys) k + product_at (late h (high h xs)) (late h (high h ys)) k)
  whole k =
      coefficient_is xs ys k ∙ product_at-same (λ i. get_or xs i 0) (λ i. get_or ys i 0) (λ i. low h xs i + late h (high h xs) i) (λ i. low h ys i + late h (high h ys) i) (get_or-halves h xs) (get_or-halves h ys) k
      ∙ product_at-plus (low h xs) (late h (high h xs)) (low h ys) (late h (high h ys)) k

  -- the product of the halves' sums
  folded : (k : ℕ) → coefficient sums sums' k ≡ (product_at (low h xs) (low h ys) k + product_at (low h xs) (high h ys) k)
      + (product_at (high h xs) (low h ys) k + product_at (high h xs) (high h ys) k)
  folded k =
      coefficient_is sums sums' k ∙ product_at-same (λ i. get_or sums i 0) (λ i. get_or sums' i 0) (λ i. low h xs i + high h xs i) (λ i. low h ys i + high h ys i) sums_are sums'_are k
      ∙ product_at-plus (low h xs) (high h xs) (low h ys) (high h ys) k

  late_second : (f : ℕ → ℕ) (k : ℕ) → product_at f (late h (high h ys)) (h + k) ≡ product_at f (high h ys) k
  late_second f k = product_at-late-second h (high h ys) (late h (high h ys)) f (IsShifted-late h (high h ys)) k

  late_first : (g : ℕ → ℕ) (k : ℕ) → product_at (late h (high h xs)) g (h + k) ≡ product_at (high h xs) g k
  late_first g k = product_at-late-first h (high h xs) (late h (high h xs)) g (IsShifted-late h (high h xs)) k

  early_second : (f : ℕ → ℕ) (k : ℕ) → k < h → product_at f (late h (high h ys)) k ≡ 0
  early_second f k early = product_at-early-second h (high h ys) (late h (high h ys)) f (IsShifted-late h (high h ys)) k early

  early_first : (g : ℕ → ℕ) (k : ℕ) → k < h → product_at (late h (high h xs)) g k ≡ 0
  early_first g k early = product_at-early-first h (high h xs) (late h (high h xs)) g (IsShifted-late h (high h xs)) k early

  -- two halves have no product as late as a whole block
  past : (first second : List ℕ) (k : ℕ) → length first ≡ h → length second ≡ h → product_at (λ i. get_or first i 0) (λ i. get_or second i 0) (h + (h + k)) ≡ 0
  past first second k short short' = sym (coefficient_is first second (h + (h + k))) ∙ coefficient-past first second (h + (h + k)) (omega arith)

  pub beyond : (k : ℕ) → coefficient (take h xs) (take h ys) k + coefficient (drop h xs) (drop h ys) k ≤ coefficient sums sums' k
  beyond k =
      omega (arith, folded k, coefficient_is (take h xs) (take h ys) k, coefficient_is (drop h xs) (drop h ys) k)

  pub first_quarter : (i : ℕ) → i < h → coefficient xs ys i ≡ coefficient (take h xs) (take h ys) i
  first_quarter i early =
      omega (arith, whole i, coefficient_is (take h xs) (take h ys) i, early_second (low h xs) i early, early_first (low h ys) i early, early_first (late h (high h ys)) i early)

  pub second_quarter : (i : ℕ) → i < h → coefficient xs ys (h + i)
      ≡ coefficient (take h xs) (take h ys) (h + i) + (coefficient sums sums' i - coefficient (take h xs) (take h ys) i - coefficient (drop h xs) (drop h ys) i)
  second_quarter i early =
      omega (
        arith,
        whole (h + i),
        folded i,
        coefficient_is (take h xs) (take h ys) (h + i),
        coefficient_is (take h xs) (take h ys) i,
        coefficient_is (drop h xs) (drop h ys) i,
        late_second (low h xs) i,
        late_first (low h ys) i,
        late_first (late h (high h ys)) i,
        early_second (high h xs) i early,
      )

  pub third_quarter : (i : ℕ) → i < h → coefficient xs ys (h + (h + i))
      ≡ coefficient (drop h xs) (drop h ys) i + (coefficient sums sums' (h + i) - coefficient (take h xs) (take h ys) (h + i) - coefficient (drop h xs) (drop h ys) (h + i))
  third_quarter i early =
      omega (
        arith,
        whole (h + (h + i)),
        folded (h + i),
        coefficient_is (drop h xs) (drop h ys) i,
        coefficient_is (take h xs) (take h ys) (h + i),
        coefficient_is (drop h xs) (drop h ys) (h + i),
        past (take h xs) (take h ys) i (omega (arith, length-take h xs)) (omega (arith, length-take h ys)),
        late_second (low h xs) (h + i),
        late_first (low h ys) (h + i),
        late_first (late h (high h ys)) (h + i),
        late_second (high h xs) i,
      )

  pub fourth_quarter : (i : ℕ) → i < h → coefficient xs ys (h + (h + (h + i))) ≡ coefficient (drop h xs) (drop h ys) (h + i)
  fourth_quarter i early =
      omega (
        arith,
        whole (h + (h + (h + i))),
        coefficient_is (drop h xs) (drop h ys) (h + i),
        past (take h xs) (take h ys) (h + i) (omega (arith, length-take h xs)) (omega (arith, length-take h ys)),
        past (take h xs) (drop h ys) i (omega (arith, length-take h xs)) (omega (arith, length-drop h ys)),
        past (drop h xs) (take h ys) i (omega (arith, length-drop h xs)) (omega (arith, length-take h ys)),
        late_second (low h xs) (h + (h + i)),
        late_first (low h ys) (h + (h + i)),
        late_first (late h (high h ys)) (h + (h + i)),
        late_second (high h xs) (h + i),
      )

-- what the three products of a step of folding are, and that their lists hold them
pub record IsHalved (h : ℕ) (xs ys sums sums' low high middle : List ℕ) : Type 0 where
  pub xs_long : length xs ≡ h + h
  pub ys_long : length ys ≡ h + h
  pub sums_are : (k : ℕ) → get_or sums k 0 ≡ get_or (take h xs) k 0 + get_or (drop h xs) k 0
  pub sums'_are : (k : ℕ) → get_or sums' k 0 ≡ get_or (take h ys) k 0 + get_or (drop h ys) k 0
  pub low_is : (k : ℕ) → k < h + h → get_or low k 0 ≡ coefficient (take h xs) (take h ys) k
  pub high_is : (k : ℕ) → k < h + h → get_or high k 0 ≡ coefficient (drop h xs) (drop h ys) k
  pub middle_is : (k : ℕ) → k < h + h → get_or middle k 0 ≡ coefficient sums sums' k

-- from the parts that the calls split off, and from what the products promise within their lists
pub IsHalved-from_parts : (h : ℕ) (xs ys x0 x1 y0 y1 sums sums' low high middle : List ℕ) → length xs ≡ h + h → length ys ≡ h + h
    → x0 ≡ take h xs → x1 ≡ drop h xs → y0 ≡ take h ys → y1 ≡ drop h ys → length sums ≡ h → length sums' ≡ h
    → ((k : ℕ) → k < length sums → get_or sums k 0 ≡ get_or x0 k 0 + get_or x1 k 0)
    → ((k : ℕ) → k < length sums' → get_or sums' k 0 ≡ get_or y0 k 0 + get_or y1 k 0)
    → length low ≡ h + h → length high ≡ h + h → length middle ≡ h + h
    → ((k : ℕ) → k < length low → get_or low k 0 ≡ coefficient x0 y0 k)
    → ((k : ℕ) → k < length high → get_or high k 0 ≡ coefficient x1 y1 k)
    → ((k : ℕ) → k < length middle → get_or middle k 0 ≡ coefficient sums sums' k)
    → IsHalved h xs ys sums sums' low high middle
IsHalved-from_parts h xs ys x0 x1 y0 y1 sums sums' low high middle xs_long ys_long ex0 ex1 ey0 ey1 sums_long sums'_long sums_are sums'_are low_long high_long middle_long low_is high_is middle_is =
    record {
      xs_long = xs_long;
      ys_long = ys_long;
      sums_are = rw (← ex0, ← ex1) (sums_everywhere x0 x1 sums (omega (arith, ap length ex0, length-take h xs)) (omega (arith, ap length ex1, length-drop h xs)) sums_are);
      sums'_are = rw (← ey0, ← ey1) (sums_everywhere y0 y1 sums' (omega (arith, ap length ey0, length-take h ys)) (omega (arith, ap length ey1, length-drop h ys)) sums'_are);
      low_is = λ k inside. rw (← ex0, ← ey0) (low_is k (omega arith));
      high_is = λ k inside. rw (← ex1, ← ey1) (high_is k (omega arith));
      middle_is = λ k inside. middle_is k (omega arith);
    }

-- what `add_middle` does to them
pub record AddsMiddle (h : ℕ) (middle low high low' high' : List ℕ) : Type 0 where
  pub low_long : length low' ≡ h + h
  pub high_long : length high' ≡ h + h
  pub first : (i : ℕ) → i < h → get_or low' i 0 ≡ get_or low i 0
  pub second : (i : ℕ) → i < h → get_or low' (h + i) 0 ≡ get_or low (h + i) 0 + (get_or middle i 0 - get_or low i 0 - get_or high i 0)
  pub third : (i : ℕ) → i < h → get_or high' i 0 ≡ get_or high i 0 + (get_or middle (h + i) 0 - get_or low (h + i) 0 - get_or high (h + i) 0)
  pub fourth : (i : ℕ) → i < h → get_or high' (h + i) 0 ≡ get_or high (h + i) 0

pub IsHalved-beyond : (h : ℕ) (xs ys sums sums' low high middle : List ℕ) → IsHalved h xs ys sums sums' low high middle
    → (k : ℕ) → k < h + h → get_or low k 0 + get_or high k 0 ≤ get_or middle k 0
IsHalved-beyond h xs ys sums sums' low high middle halved k inside =
    omega (arith, halved.low_is k inside, halved.high_is k inside, halved.middle_is k inside, beyond h xs ys sums sums' halved.xs_long halved.ys_long halved.sums_are halved.sums'_are k)

module _ (h : ℕ) (xs ys sums sums' low high middle low' high' : List ℕ) (halved : IsHalved h xs ys sums sums' low high middle) (adds : AddsMiddle h middle low high low' high') where
  -- the first and the second quarter
  in_low : (i : ℕ) → i < h + h → get_or low' i 0 ≡ coefficient xs ys i
  in_low i inside =
      ⊎_elim (λ (early : i < h).
      omega (arith, adds.first i early, halved.low_is i inside, first_quarter h xs ys sums sums' halved.xs_long halved.ys_long halved.sums_are halved.sums'_are i early)) (λ (from : h ≤ i).
      let early : i - h < h = omega arith in
      let place : h + (i - h) ≡ i = omega arith in
      let added = adds.second (i - h) early in
      let quarter = second_quarter h xs ys sums sums' halved.xs_long halved.ys_long halved.sums_are halved.sums'_are (i - h) early in
      let added' = rw place at added in
      let quarter' = rw place at quarter in
      omega (arith, halved.low_is i inside, halved.low_is (i - h) (omega arith), halved.high_is (i - h) (omega arith), halved.middle_is (i - h) (omega arith))) (cases_lt i h)

  -- the third and the fourth
  in_high : (i : ℕ) → i < h + h → get_or high' i 0 ≡ coefficient xs ys ((h + h) + i)
  in_high i inside =
      ⊎_elim (λ (early : i < h).
      let place : h + (h + i) ≡ (h + h) + i = omega arith in
      let quarter = third_quarter h xs ys sums sums' halved.xs_long halved.ys_long halved.sums_are halved.sums'_are i early in
      let quarter' = rw place at quarter in
      omega (arith, adds.third i early, halved.high_is i inside, halved.middle_is (h + i) (omega arith), halved.low_is (h + i) (omega arith), halved.high_is (h + i) (omega arith))) (λ (from : h ≤ i).
      let early : i - h < h = omega arith in
      let place : h + (i - h) ≡ i = omega arith in
      let late_place : h + (h + i) ≡ (h + h) + i = omega arith in
      let added = rw place at (adds.fourth (i - h) early) in
      let quarter = rw (place, late_place) at (fourth_quarter h xs ys sums sums' halved.xs_long halved.ys_long halved.sums_are halved.sums'_are (i - h) early) in
      omega (arith, halved.high_is i inside)) (cases_lt i h)

  pub joined_is : (i : ℕ) → i < length (low' ++ high') → get_or (low' ++ high') i 0 ≡ coefficient xs ys i
  joined_is i inside =
      ⊎_elim (λ (before : i < h + h). get_or_append_left low' high' 0 i (omega (arith, adds.low_long)) ∙ in_low i before) (λ (from : h + h ≤ i).
      let place : (h + h) + (i - (h + h)) ≡ i = omega arith in
      let here = rw place at (in_high (i - (h + h)) (omega (arith, length-append low' high', adds.low_long, adds.high_long))) in
      get_or-append_right low' high' (h + h) i 0 adds.low_long from ∙ here) (cases_lt i (h + h))
