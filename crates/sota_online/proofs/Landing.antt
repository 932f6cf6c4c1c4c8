-- Where a square lands.
use Rattle.std.proofs.Common.{◌≡◌, ℕ, zero, suc, ◌%◌, ◌/◌, ◌+◌, ◌-◌, ◌*◌, ◌^◌, ◌<◌, ◌≤◌, ◌++◌, min, List, length, get_or, take, drop, sum, subst, add-one, refl, sym, ap, ◌∙◌, ⊎_elim, arith, length-take, length-drop, get_or-take, get_or-drop}
use Rattle.std.proofs.lemmas.Bool.{cases_lt}
use Rattle.std.proofs.lemmas.List.{get_or_past, take_min}
use Rattle.std.proofs.lemmas.Nat.{pow_pos}
use Rattle.std.proofs.lemmas.List.Sums.{sum_by-take-le, sum_by-take-drop}
use Rattle.sota_units.specs.Rounding.{SCALE_LIMIT}
use Rattle.std.proofs.Math.Nat.{pow-suc, mul-mod_left}
use Rattle.sota_block.specs.Product.{sum_below}
use Rattle.sota_block.proofs.Sums.{sum_below-same, sum_below-zero, sum_below-add}
use Rattle.sota_block.specs.Meeting.{met}
use Rattle.sota_online.specs.Squares.{square, numbered, HoldsProducts}
use Rattle.sota_online.specs.Products.{Landed, Added, Fits, FitsHalves}
use Rattle.sota_block.specs.Meeting.{meeting}
use Rattle.sota_block.proofs.Partners.{met-in, met-early, met-late}
use Rattle.sota_block.specs.Meeting.{IsSkips}
use Rattle.sota_block.proofs.Crossings.{skips-part}
use Rattle.sota_block.proofs.Stretch.{sub_at, stretch_new, stretch_before, stretch_after}
use Rattle.sota_online.proofs.Squares.{mixed, Stands, Stands-block, Holds-next, meets-next, square-before, square-after, weight-le}

-- the products of a list of masses are those of as many masses as there are and zeros
meeting_to : (seg : List ℕ) (f : ℕ → ℕ) (s j : ℕ) → length seg ≤ s → meeting seg f s j ≡ sum_below s (λ i. get_or seg i 0 * met f 0 s j i)
meeting_to seg f s j few =
    let t : ℕ → ℕ = λ i. get_or seg i 0 * met f 0 s j i in
    let n = length seg in
    let parts : s ≡ n + (s - n) = omega arith in
    let back : sum_below (s - n) (λ i. t (n + i)) ≡ 0 = sum_below-zero (s - n) (λ i. t (n + i)) (λ i below.
    let none : get_or seg (n + i) 0 ≡ 0 = get_or_past seg (n + i) 0 (omega arith) in
    ap (λ (m : ℕ). m * met f 0 s j (n + i)) none ∙ omega arith) in
    sym (ap (λ (m : ℕ). sum_below m t) parts ∙ omega (arith, sum_below-add n (s - n) t, back))

-- masses and a block of values make a square
pub landing : (masses seg : List ℕ) (F f : ℕ → ℕ) (s k j : ℕ) → 1 ≤ s → s ≤ k → seg ≡ take s (drop (s - 1) masses)
    → ((a : ℕ) → a < s → f a ≡ F (k - s + a)) → meeting seg f s j ≡ square (numbered masses) F s (k - s) k (k + j)
landing masses seg F f s k j some fits is same =
    let few : length seg ≤ s = omega (arith, ap (λ (xs : List ℕ). length xs) is, length-take s (drop (s - 1) masses)) in
    meeting_to seg f s j few
    ∙ sum_below-same s (λ i. get_or seg i 0 * met f 0 s j i) (λ i. numbered masses (s + i) * met F (k - s) k (k + j) (s + i)) (λ i below.
    let there : (s - 1) + i ≡ s + i - 1 = omega arith in
    let mass : get_or seg i 0 ≡ numbered masses (s + i) = ap (λ (xs : List ℕ). get_or xs i 0) is ∙ get_or-take s (drop (s - 1) masses) i 0 below ∙ get_or-drop (s - 1) masses i 0 ∙ ap (λ (n : ℕ). get_or masses n 0) there in
    let value : met f 0 s j i ≡ met F (k - s) k (k + j) (s + i) =
    ⊎_elim (λ (early : j < i). rw (met-early f 0 s j i (omega arith), met-early F (k - s) k (k + j) (s + i) (omega arith)) refl)
    (λ (from : i ≤ j). ⊎_elim
    (λ (within : j < s + i).
    let there' : k - s + (j - i) ≡ k + j - (s + i) = omega arith in
    rw (met-in f 0 s j i (omega arith) within, met-in F (k - s) k (k + j) (s + i) (omega arith) (omega arith)) (same (j - i) (omega arith) ∙ ap F there'))
    (λ (past : s + i ≤ j). rw (met-late f 0 s j i past, met-late F (k - s) k (k + j) (s + i) (omega arith)) refl)
    (cases_lt j (s + i)))
    (cases_lt j i) in
    ap (λ (m : ℕ). m * met f 0 s j i) mass ∙ ap (λ (v : ℕ). numbered masses (s + i) * v) value)

-- a level's step, over the lists that a call is lent
module _ (masses values : List ℕ) (first k r R size blocks end : ℕ) (st : Stands first k r size blocks) (below : r < R) (known : k ≡ length values) (end_is : end ≡ min (length masses) (2 * size - 1)) where
  abbrev seg : List ℕ
  seg = take (end - (size - 1)) (drop (size - 1) masses)

  abbrev block : List ℕ
  block = take (k - (k - size)) (drop (k - size) values)

  some : 1 ≤ size
  some = omega (arith, st.size_is, pow_pos r)

  fits : size ≤ k
  fits = (Stands-block first k r size blocks st).1.1

  is : seg ≡ take size (drop (size - 1) masses)
  is =
      let n : end - (size - 1) ≡ min size (length (drop (size - 1) masses)) = omega (arith, some, length-drop (size - 1) masses) in
      ap (λ (n : ℕ). take n (drop (size - 1) masses)) n ∙ take_min size (drop (size - 1) masses)

  here : (a : ℕ) → a < size → get_or block a 0 ≡ get_or values (k - size + a) 0
  here a inside = sub_at (k - size) (k - (k - size)) a values (omega (arith, fits))

  pub block_long : length block ≡ size
  block_long = omega (arith, fits, length-take (k - (k - size)) (drop (k - size) values), length-drop (k - size) values)

  pub seg_few : length seg ≤ length block
  seg_few = omega (arith, block_long, ap (λ (xs : List ℕ). length xs) is, length-take size (drop (size - 1) masses))

  products : (j : ℕ) → meeting seg (λ a. get_or block a 0) (length block) j ≡ square (numbered masses) (λ a. get_or values a 0) size (k - size) k (k + j)
  products j = ap (λ (n : ℕ). meeting seg (λ a. get_or block a 0) n j) block_long ∙ landing masses seg (λ a. get_or values a 0) (λ a. get_or block a 0) size k j some fits is here

  weights : (j : ℕ) → meeting seg (λ a. 1) (length block) j ≡ square (numbered masses) (λ a. 1) size (k - size) k (k + j)
  weights j = ap (λ (n : ℕ). meeting seg (λ a. 1) n j) block_long ∙ landing masses seg (λ a. 1) (λ a. 1) size k j some fits is (λ a inside. refl)

  pub level_step : (start : ℕ) (low high low' high' : List ℕ) (p : ℕ) → p < length low → Landed seg block k start low high low' high' → length high ≡ length low → HoldsProducts (numbered masses) (λ a. get_or values a 0) (mixed first k r) R start p (get_or low p 0) (get_or high p 0)
      → HoldsProducts (numbered masses) (λ a. get_or values a 0) (mixed first k (r + 1)) R start p (get_or low' p 0) (get_or high' p 0)
  level_step start low high low' high' p inside landed same held =
      rw add-one
      (⊎_elim (λ (early : p < k).
      let none : square (numbered masses) (λ a. get_or values a 0) size (k - size) k p ≡ 0 = square-before (numbered masses) (λ a. get_or values a 0) size (k - size) k p (omega (arith, fits)) in
      let a = landed.low_before p early in
      let b = landed.high_before p early in
      Holds-next (numbered masses) (λ a. get_or values a 0) R first k r size blocks start p _ _ _ _ st below (λ wanted. omega arith) (omega arith) (omega arith) held)
      (λ (from : k ≤ p). ⊎_elim
      (λ (within : p < k + 2 * size).
      let there : k + (p - k) ≡ p = omega arith in
      let near : p - k < 2 * length block = omega (arith, block_long) in
      let wanted : start ≤ p → start ≤ k + (p - k) = λ late. omega arith in
      let sums = λ (late : start ≤ p). rw (products (p - k), there) at (landed.sums (p - k) near (omega arith) (wanted late)) in
      let lows = rw (weights (p - k), there) at (landed.low_small (p - k) near (omega arith)) in
      let highs = rw (weights (p - k), there) at (landed.high_small (p - k) near (omega arith)) in
      Holds-next (numbered masses) (λ a. get_or values a 0) R first k r size blocks start p _ _ _ _ st below sums lows highs held)
      (λ (past : k + 2 * size ≤ p).
      let none : square (numbered masses) (λ a. get_or values a 0) size (k - size) k p ≡ 0 = square-after (numbered masses) (λ a. get_or values a 0) size (k - size) k p (omega arith) in
      let a = landed.low_after p (omega (arith, block_long)) in
      let b = landed.high_after p (omega (arith, block_long)) in
      Holds-next (numbered masses) (λ a. get_or values a 0) R first k r size blocks start p _ _ _ _ st below (λ wanted. omega arith) (omega arith) (omega arith) held)
      (cases_lt p (k + 2 * size)))
      (cases_lt p k))

  -- and it fits
  pub level_fits : (start low high : ℕ) (j : ℕ) → sum masses ≤ SCALE_LIMIT → HoldsProducts (numbered masses) (λ a. get_or values a 0) (mixed first k r) R start (k + j) low high
      → (low + meeting seg (λ a. 1) (length block) j * 4294967295 < 2 ^ 64) × (high + meeting seg (λ a. 1) (length block) j * 4294967295 < 2 ^ 64)
  level_fits start low high j few held =
      let sq : ℕ = square (numbered masses) (λ a. 1) size (k - size) k (k + j) in
      let weight = meets-next (numbered masses) (λ a. 1) R first k r size blocks (k + j) st below in
      let all = weight-le masses (mixed first k (suc r)) R (k + j) in
      let w = weights j in
      let x = held.low_le in
      let y = held.high_le in
      (omega (arith), omega (arith))

-- what is said of the masses holds of a part of them
pub skips-from : (masses skips : List ℕ) (from n : ℕ) → IsSkips masses skips 0 → from + n ≤ length masses → IsSkips (take n (drop from masses)) (take n (drop from skips)) from
skips-from masses skips from n is room =
    let shift : 0 + from ≡ from = omega arith in
    subst (λ (s : ℕ). IsSkips (take n (drop from masses)) (take n (drop from skips)) s) shift (skips-part masses skips (take n (drop from masses)) (take n (drop from skips)) 0 from n is room refl refl)

-- a part of the masses has no greater sum
pub few_part : (masses : List ℕ) (from n limit : ℕ) → sum masses ≤ limit → sum (take n (drop from masses)) ≤ limit
few_part masses from n limit few = omega (arith, sum_by-take-le (λ (x : ℕ). x) (drop from masses) n, sum_by-take-drop (λ (x : ℕ). x) masses from)

pub past_masses : (masses : List ℕ) (b : ℕ) → length masses < b → numbered masses b ≡ 0
past_masses masses b past = get_or_past masses (b - 1) 0 (omega arith)

-- a row's stretch has room where the row has
pub stretch_fits : (masses : List ℕ) (size at n : ℕ) (row : List ℕ) → n ≤ 2 * size → at + n ≤ length row → Fits masses size at row → FitsHalves masses size (take n (drop at row))
stretch_fits masses size at n row few room fits k inside =
    let inside' : k < n = omega (arith, length-take n (drop at row)) in
    omega (arith, sub_at at n k row inside', fits k (omega arith) (omega arith))

-- what is added to the stretches of two rows has landed on the rows
pub landed_is : (masses values low high ys zs : List ℕ) (at start end : ℕ) → end ≡ min (length low) (at + 2 * length values) → at ≤ length low → length high ≡ length low
    → length ys ≡ length (take (end - at) (drop at low)) → length zs ≡ length (take (end - at) (drop at high))
    → Added masses values (take (end - at) (drop at low)) (take (end - at) (drop at high)) ys zs
    → Landed masses values at start low high (take at low ++ (ys ++ drop (end - at) (drop at low))) (take at high ++ (zs ++ drop (end - at) (drop at high)))
landed_is masses values low high ys zs at start end is from same long long' added =
    let n : ℕ = end - at in
    let room : at + n ≤ length low = omega arith in
    let room' : at + n ≤ length high = omega arith in
    let low_long : length (take n (drop at low)) ≡ n = omega (arith, length-take n (drop at low), length-drop at low) in
    let high_long : length (take n (drop at high)) ≡ n = omega (arith, length-take n (drop at high), length-drop at high) in
    record {
      sums = λ k below inside wanted.
          omega (arith, stretch_new at n low ys room long k (omega arith), stretch_new at n high zs room' long' k (omega arith), sub_at at n k low (omega arith), sub_at at n k high (omega arith), added.sums k (omega arith));
      low_small = λ k below inside. omega (arith, stretch_new at n low ys room long k (omega arith), sub_at at n k low (omega arith), added.low_small k (omega arith));
      high_small = λ k below inside. omega (arith, stretch_new at n high zs room' long' k (omega arith), sub_at at n k high (omega arith), added.high_small k (omega arith));
      low_before = λ k early. stretch_before at n low ys room long k early;
      high_before = λ k early. stretch_before at n high zs room' long' k early;
      low_after = λ k late. stretch_after at n low ys room long k (omega arith);
      high_after = λ k late. stretch_after at n high zs room' long' k (omega arith);
    }

-- the first levels are blocks of eights
pub pow_eights : (r : ℕ) → 3 ≤ r → 2 ^ r % 8 ≡ 0
pow_eights (suc (suc (suc r))) from =
    let a = pow-suc 2 (suc (suc r)) in
    let b = pow-suc 2 (suc r) in
    let c = pow-suc 2 r in
    omega arith
pow_eights zero from = absurd (omega arith)
pow_eights (suc zero) from = absurd (omega arith)
pow_eights (suc (suc zero)) from = absurd (omega arith)

pub eights_of : (first k r size blocks : ℕ) → Stands first k r size blocks → 3 ≤ first → (size % 8 ≡ 0) × (k % 8 ≡ 0)
eights_of first k r size blocks st from =
    let e : size % 8 ≡ 0 = ap (λ (n : ℕ). n % 8) st.size_is ∙ pow_eights r (omega (arith, st.from)) in
    let h : ℕ = size / 8 in
    let whole : size ≡ h * 8 = omega arith in
    let k_is : k ≡ (blocks * h) * 8 = sym st.whole ∙ ap (λ (n : ℕ). blocks * n) whole ∙ omega arith in
    (e, ap (λ (n : ℕ). n % 8) k_is ∙ mul-mod_left (blocks * h) 8)
