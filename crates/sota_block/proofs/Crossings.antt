-- Sums of masses times parts of values.
use Rattle.std.proofs.Common.{◌≡◌, ℕ, zero, suc, ◌+◌, ◌-◌, ◌*◌, ◌/◌, ◌%◌, ◌<◌, ◌≤◌, min, List, length, get_or, take, drop, sum, refl, sym, ap, ◌∙◌, ⊎_elim, arith, add-one, length-take, length-drop, get_or-take, get_or-drop}
use Rattle.std.proofs.lemmas.Bool.{cases_eq, cases_lt}
use Rattle.std.proofs.lemmas.List.{get_or_past}
use Rattle.std.specs.Simd.Lanes.{chunk}
use Rattle.std.proofs.lemmas.Simd.{get_or-chunk}
use Rattle.sota_block.specs.Product.{sum_below}
use Rattle.sota_block.proofs.Sums.{sum_below-same, sum_below-zero, sum_below-add, sum_below-product-le, sum_below-list}
use Rattle.sota_block.specs.Meeting.{crossed_by, low_half, high_half, IsSkips}

-- the first n terms
abbrev pub partial : (ℕ → ℕ) → List ℕ → List ℕ → ℕ → ℕ → ℕ
partial part masses values place n = sum_below n (λ b. get_or masses b 0 * part (get_or values (place - b) 0))

pub partial-more : (part : ℕ → ℕ) (masses values : List ℕ) (place n m v : ℕ) → m ≡ get_or masses n 0 → v ≡ get_or values (place - n) 0
    → partial part masses values place (n + 1) ≡ partial part masses values place n + m * part v
partial-more part masses values place n m v mass value =
    rw (add-one, mass, value) refl

pub partial-zero : (part : ℕ → ℕ) (masses values : List ℕ) (place n : ℕ) → get_or masses n 0 ≡ 0 → partial part masses values place (n + 1) ≡ partial part masses values place n
partial-zero part masses values place n none =
    let nothing : get_or masses n 0 * part (get_or values (place - n) 0) ≡ 0 = ap (λ (x : ℕ). x * part (get_or values (place - n) 0)) none ∙ omega arith in
    rw add-one (omega arith)

pub sum_below-le : (n N : ℕ) (f : ℕ → ℕ) → n ≤ N → sum_below n f ≤ sum_below N f
sum_below-le n zero f low = let e : n ≡ 0 = omega arith in rw e (omega arith)
sum_below-le n (suc N) f low =
    ⊎_elim (λ (here : n ≡ suc N). rw here (omega arith)) (λ (below : n ≡ suc N → ⊥). omega (arith, sum_below-le n N f (omega arith))) (cases_eq n (suc N))

nothing : (x y z : ℕ) (part : ℕ → ℕ) → part 0 ≡ 0 → y ≡ 0 → x * part y ≡ 0
nothing x y z part part_none none = ap (λ (v : ℕ). x * part v) none ∙ ap (λ (v : ℕ). x * v) part_none ∙ omega arith

-- a part of the masses gives the whole sum, where the others meet no value
pub window : (part : ℕ → ℕ) (xs ys met : List ℕ) (first end place : ℕ) → part 0 ≡ 0 → first ≤ end → end ≤ length xs → met ≡ take (end - first) (drop first xs)
    → ((b : ℕ) → b < first → get_or ys (place - b) 0 ≡ 0) → ((b : ℕ) → end ≤ b → b < length xs → get_or ys (place - b) 0 ≡ 0)
    → crossed_by part met ys (place - first) ≡ crossed_by part xs ys place
window part xs ys met first end place none low high is before after =
    let f : ℕ → ℕ = λ b. get_or xs b 0 * part (get_or ys (place - b) 0) in
    let g : ℕ → ℕ = λ k. get_or met k 0 * part (get_or ys (place - first - k) 0) in
    let w : ℕ = end - first in
    let r : ℕ = length xs - end in
    let long : length met ≡ w = ap (λ (zs : List ℕ). length zs) is ∙ omega (arith, length-drop first xs, length-take w (drop first xs)) in
    let whole : length xs ≡ first + (w + r) = omega arith in
    let inside : sum_below w g ≡ sum_below w (λ k. f (first + k)) = sum_below-same w g (λ k. f (first + k)) (λ k below.
    let mass : get_or met k 0 ≡ get_or xs (first + k) 0 = ap (λ (zs : List ℕ). get_or zs k 0) is ∙ get_or-take w (drop first xs) k 0 below ∙ get_or-drop first xs k 0 in
    let there : place - first - k ≡ place - (first + k) = omega arith in
    ap (λ (m : ℕ). m * part (get_or ys (place - first - k) 0)) mass ∙ ap (λ (i : ℕ). get_or xs (first + k) 0 * part (get_or ys i 0)) there) in
    let front : sum_below first f ≡ 0 = sum_below-zero first f (λ b below. nothing (get_or xs b 0) (get_or ys (place - b) 0) 0 part none (before b below)) in
    let back : sum_below r (λ k. f (first + (w + k))) ≡ 0 = sum_below-zero r (λ k. f (first + (w + k))) (λ k below.
    nothing (get_or xs (first + (w + k)) 0) (get_or ys (place - (first + (w + k))) 0) 0 part none (after (first + (w + k)) (omega arith) (omega arith))) in
    let parts : sum_below (first + (w + r)) f ≡ sum_below first f + sum_below (w + r) (λ k. f (first + k)) = sum_below-add first (w + r) f in
    let parts' : sum_below (w + r) (λ k. f (first + k)) ≡ sum_below w (λ k. f (first + k)) + sum_below r (λ k. f (first + (w + k))) = sum_below-add w r (λ k. f (first + k)) in
    let left : crossed_by part met ys (place - first) ≡ sum_below w g = ap (λ (n : ℕ). sum_below n g) long in
    let right : crossed_by part xs ys place ≡ sum_below (first + (w + r)) f = ap (λ (n : ℕ). sum_below n f) whole in
    omega arith

-- eight places meet only some of the masses
pub met_same : (part : ℕ → ℕ) (xs ys met : List ℕ) (at first end j : ℕ) → part 0 ≡ 0 → length xs + 16 ≤ length ys → first ≡ at - (length ys - 16) → end ≡ min (length xs) (at + 8) → at + 16 < length ys + length xs
    → ((i : ℕ) → i < 8 → get_or ys i 0 ≡ 0) → ((i : ℕ) → length ys ≤ i + 8 → get_or ys i 0 ≡ 0) → met ≡ take (end - first) (drop first xs) → j < 8
    → crossed_by part met ys (at + 8 - first + j) ≡ crossed_by part xs ys (at + j + 8)
met_same part xs ys met at first end j none long first_is end_is meets zeros zeros' is below =
    let place : ℕ = at + j + 8 in
    let there : at + 8 - first + j ≡ place - first = omega arith in
    ap (λ (p : ℕ). crossed_by part met ys p) there
    ∙ window part xs ys met first end place none (omega arith) (omega arith) is (λ b before. zeros' (place - b) (omega arith)) (λ b from inside. zeros (place - b) (omega arith))

-- places past the last meet none
pub met_none : (part : ℕ → ℕ) (xs ys : List ℕ) (k : ℕ) → part 0 ≡ 0 → ((i : ℕ) → length ys ≤ i + 8 → get_or ys i 0 ≡ 0) → length ys + length xs ≤ k + 16 → crossed_by part xs ys (k + 8) ≡ 0
met_none part xs ys k none zeros past =
    sum_below-zero (length xs) (λ b. get_or xs b 0 * part (get_or ys (k + 8 - b) 0)) (λ b below. nothing (get_or xs b 0) (get_or ys (k + 8 - b) 0) 0 part none (zeros (k + 8 - b) (omega arith)))

-- a mass times a value is the mass times the value's halves
pub halves : (m v : ℕ) → m * (v % 4294967296) + 4294967296 * (m * (v / 4294967296)) ≡ m * v
halves m v =
    let split : v % 4294967296 + 4294967296 * (v / 4294967296) ≡ v = omega arith in
    let joined : m * (v % 4294967296 + 4294967296 * (v / 4294967296)) ≡ m * v = ap (λ (x : ℕ). m * x) split in
    omega arith

-- the sums of the values' halves make the sum
pub crossed-halves : (masses values : List ℕ) (place n : ℕ) → partial low_half masses values place n + 4294967296 * partial high_half masses values place n ≡ partial (λ v. v) masses values place n
crossed-halves masses values place zero = omega arith
crossed-halves masses values place (suc n) = omega (arith, crossed-halves masses values place n, halves (get_or masses n 0) (get_or values (place - n) 0))

-- and neither is large
pub crossed-le : (part : ℕ → ℕ) (masses values : List ℕ) (place limit : ℕ) → ((a : ℕ) → part (get_or values a 0) ≤ limit) → crossed_by part masses values place ≤ sum masses * limit
crossed-le part masses values place limit small =
    let most = sum_below-product-le (length masses) limit (λ b. get_or masses b 0) (λ b. part (get_or values (place - b) 0)) (λ b below. small (place - b)) in
    rw (sum_below-list masses) at most

-- a lane of eight values
pub lane : (at b j : ℕ) (vs : List ℕ) → j < 8 → b ≤ at → get_or (chunk (at - b) 8 vs) j 0 ≡ get_or vs (at + j - b) 0
lane at b j vs below from =
    let place : at - b + j ≡ at + j - b = omega arith in
    get_or-chunk (at - b) 8 vs j 0 below ∙ ap (λ (n : ℕ). get_or vs n 0) place

pub lane-more : (part : ℕ → ℕ) (masses values : List ℕ) (at b j m : ℕ) → j < 8 → b ≤ at → m ≡ get_or masses b 0
    → partial part masses values (at + j) (b + 1) ≡ partial part masses values (at + j) b + m * part (get_or (chunk (at - b) 8 values) j 0)
lane-more part masses values at b j m below from mass = partial-more part masses values (at + j) b m (get_or (chunk (at - b) 8 values) j 0) mass (lane at b j values below from)

pub partial-le : (part : ℕ → ℕ) (masses values : List ℕ) (place n : ℕ) → n ≤ length masses → partial part masses values place n ≤ crossed_by part masses values place
partial-le part masses values place n within = sum_below-le n (length masses) (λ b. get_or masses b 0 * part (get_or values (place - b) 0)) within

-- masses of 0 add nothing
pub partial-same : (part : ℕ → ℕ) (masses values : List ℕ) (place n d : ℕ) → ((i : ℕ) → n ≤ i → i < n + d → get_or masses i 0 ≡ 0) → partial part masses values place (n + d) ≡ partial part masses values place n
partial-same part masses values place n d none =
    let f : ℕ → ℕ = λ b. get_or masses b 0 * part (get_or values (place - b) 0) in
    let rest : sum_below d (λ k. f (n + k)) ≡ 0 = sum_below-zero d (λ k. f (n + k)) (λ k below. ap (λ (m : ℕ). m * part (get_or values (place - (n + k)) 0)) (none (n + k) (omega arith) (omega arith)) ∙ omega arith) in
    omega (arith, sum_below-add n d f)

-- from a place to the next mass that is not 0, and past it
module _ (part : ℕ → ℕ) (masses skips values : List ℕ) (shift place b next : ℕ) (is : IsSkips masses skips shift) (below : b < length masses) (next_is : next ≡ get_or skips b 0 - shift) where
  before : (to : ℕ) → b ≤ to → to ≤ next → to ≤ length masses → partial part masses values place to ≡ partial part masses values place (min b (length masses))
  before to from until inside =
      let here : min b (length masses) ≡ b = omega arith in
      let e : b + (to - b) ≡ to = omega arith in
      let same = partial-same part masses values place b (to - b) (λ i later early. is.zeros b i below later (omega arith)) in
      ap (λ (n : ℕ). partial part masses values place n) (sym e) ∙ same ∙ ap (λ (n : ℕ). partial part masses values place n) (sym here)

  pub skip-more : (mass v : ℕ) → next < length masses → mass ≡ get_or masses next 0 → v ≡ get_or values (place - next) 0
      → partial part masses values place (next + 1) ≡ partial part masses values place (min b (length masses)) + mass * part v
  skip-more mass v inside m_is v_is = omega (arith, partial-more part masses values place next mass v m_is v_is, before next (omega (arith, is.forward b below)) (omega arith) (omega arith))

  pub skip-rest : length masses ≤ next → partial part masses values place (length masses) ≡ partial part masses values place (min b (length masses))
  skip-rest past = before (length masses) (omega arith) past (omega arith)

pub skip-lane : (part : ℕ → ℕ) (masses skips values : List ℕ) (shift at b next j mass : ℕ) → IsSkips masses skips shift → b < length masses → next ≡ get_or skips b 0 - shift → next < length masses → j < 8 → next ≤ at → mass ≡ get_or masses next 0
    → partial part masses values (at + j) (next + 1) ≡ partial part masses values (at + j) (min b (length masses)) + mass * part (get_or (chunk (at - next) 8 values) j 0)
skip-lane part masses skips values shift at b next j mass is inside next_is there below from mass_is =
    skip-more part masses skips values shift (at + j) b next is inside next_is mass (get_or (chunk (at - next) 8 values) j 0) there mass_is (lane at next j values below from)

-- what is said of a list holds of its parts
pub skips-part : (masses skips met mets : List ℕ) (shift first n : ℕ) → IsSkips masses skips shift → first + n ≤ length masses → met ≡ take n (drop first masses) → mets ≡ take n (drop first skips) → IsSkips met mets (shift + first)
skips-part masses skips met mets shift first n is room met_is mets_is =
    let same = is.long in
    let long : length met ≡ n = ap (λ (xs : List ℕ). length xs) met_is ∙ omega (arith, length-take n (drop first masses), length-drop first masses) in
    let long' : length mets ≡ n = ap (λ (xs : List ℕ). length xs) mets_is ∙ omega (arith, length-take n (drop first skips), length-drop first skips) in
    let next : (b : ℕ) → b < n → get_or mets b 0 ≡ get_or skips (first + b) 0 = λ b below. ap (λ (xs : List ℕ). get_or xs b 0) mets_is ∙ get_or-take n (drop first skips) b 0 below ∙ get_or-drop first skips b 0 in
    record {
      long = omega arith;
      forward = λ b below. omega (arith, next b (omega arith), is.forward (first + b) (omega arith));
      zeros = λ b i below from until.
          ⊎_elim (λ (inside : i < n).
          ap (λ (xs : List ℕ). get_or xs i 0) met_is ∙ get_or-take n (drop first masses) i 0 inside ∙ get_or-drop first masses i 0
          ∙ is.zeros (first + b) (first + i) (omega arith) (omega arith) (omega (arith, next b (omega arith))))
          (λ (past : n ≤ i). get_or_past met i 0 (omega arith))
          (cases_lt i n);
    }
