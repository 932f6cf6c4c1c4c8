-- The products that meet at a place of two blocks.
use Rattle.std.proofs.Common.{◌≡◌, ℕ, zero, suc, ◌+◌, ◌-◌, ◌*◌, ◌%◌, ◌<◌, ◌≤◌, List, length, replicate, get_or, sum, refl, sym, ap, ◌∙◌, ⊎_elim, arith, add-one}
use Rattle.std.proofs.lemmas.Bool.{cases_lt}
use Rattle.std.proofs.Math.Nat.{mul-le-mul_left, mul_assoc, add-mul}
use Rattle.std.proofs.lemmas.List.{get_or_past, get_or-replicate, length-replicate}
use Rattle.sota_block.specs.Product.{sum_below, coefficient}
use Rattle.sota_block.proofs.Sums.{sum_below-same, sum_below-zero, sum_below-add, sum_below-list}
use Rattle.sota_block.proofs.Convolution.{coefficient-sum}
use Rattle.sota_units.specs.Rounding.{ONE}
use Rattle.sota_block.specs.Meeting.{met, meeting, low_half, high_half, crossed_by}
use Rattle.sota_block.proofs.Partners.{met-in, met-early, met-late, met-cases}
use Rattle.sota_block.proofs.Crossings.{sum_below-le}

-- those of the first n masses
abbrev pub meeting_below : List ℕ → (ℕ → ℕ) → ℕ → ℕ → ℕ → ℕ
meeting_below masses values size place n = sum_below n (λ b. get_or masses b 0 * met values 0 size place b)

pub meeting_below-more : (masses : List ℕ) (f : ℕ → ℕ) (size place n : ℕ) → meeting_below masses f size place (n + 1) ≡ meeting_below masses f size place n + get_or masses n 0 * met f 0 size place n
meeting_below-more masses f size place n = rw add-one refl

-- a mass that is 0, or that meets nothing at this place
pub meeting_below-none : (masses : List ℕ) (f : ℕ → ℕ) (size place n : ℕ) → get_or masses n 0 ≡ 0 → meeting_below masses f size place (n + 1) ≡ meeting_below masses f size place n
meeting_below-none masses f size place n none =
    let nothing : get_or masses n 0 * met f 0 size place n ≡ 0 = ap (λ (x : ℕ). x * met f 0 size place n) none ∙ omega arith in
    omega (arith, meeting_below-more masses f size place n)

pub meeting_below-far : (masses : List ℕ) (f : ℕ → ℕ) (size place n : ℕ) → met f 0 size place n ≡ 0 → meeting_below masses f size place (n + 1) ≡ meeting_below masses f size place n
meeting_below-far masses f size place n none =
    let nothing : get_or masses n 0 * met f 0 size place n ≡ 0 = ap (λ (x : ℕ). get_or masses n 0 * x) none ∙ omega arith in
    omega (arith, meeting_below-more masses f size place n)

pub meeting_below-here : (masses : List ℕ) (f : ℕ → ℕ) (size place n m : ℕ) → m ≡ get_or masses n 0 → n ≤ place → place < n + size → meeting_below masses f size place (n + 1) ≡ meeting_below masses f size place n + m * f (place - n)
meeting_below-here masses f size place n m mass from to =
    let meets : met f 0 size place n ≡ f (place - n) = met-in f 0 size place n (omega arith) (omega arith) in
    let product : get_or masses n 0 * met f 0 size place n ≡ m * f (place - n) = ap (λ (x : ℕ). get_or masses n 0 * x) meets ∙ ap (λ (x : ℕ). x * f (place - n)) (sym mass) in
    omega (arith, meeting_below-more masses f size place n)

pub meeting_below-le : (masses : List ℕ) (f : ℕ → ℕ) (size place n : ℕ) → n ≤ length masses → meeting_below masses f size place n ≤ meeting masses f size place
meeting_below-le masses f size place n few = sum_below-le n (length masses) (λ b. get_or masses b 0 * met f 0 size place b) few

-- ---- values between zeros
zeros_past : (padded : List ℕ) (n i : ℕ) → length padded ≡ n + 16 → ((i : ℕ) → i < 8 → get_or padded (n + 8 + i) 0 ≡ 0) → n + 8 ≤ i → get_or padded i 0 ≡ 0
zeros_past padded n i long after from =
    ⊎_elim (λ (inside : i < n + 16). let there : n + 8 + (i - (n + 8)) ≡ i = omega arith in rw there at (after (i - (n + 8)) (omega arith)))
    (λ (past : n + 16 ≤ i). get_or_past padded i 0 (omega arith)) (cases_lt i (n + 16))

pub zeros_after : (padded : List ℕ) (n i : ℕ) → length padded ≡ n + 16 → ((i : ℕ) → i < 8 → get_or padded (n + 8 + i) 0 ≡ 0) → length padded ≤ i + 8 → get_or padded i 0 ≡ 0
zeros_after padded n i long after from = zeros_past padded n i long after (omega arith)

pub zeros_there : (n i : ℕ) → ◌≡◌ {A = ℕ} (get_or (replicate n 0) i 0) 0
zeros_there n i =
    ⊎_elim (λ (inside : i < n). get_or-replicate {A = ℕ} n i 0 0 inside) (λ (past : n ≤ i). get_or_past {X = ℕ} (replicate n 0) i 0 (omega (arith, length-replicate {A = ℕ} n 0))) (cases_lt i n)

pub padded_is : (part : ℕ → ℕ) (masses padded block : List ℕ) (k : ℕ) → part 0 ≡ 0 → length masses ≤ length block → length padded ≡ length block + 16
    → ((i : ℕ) → i < 8 → get_or padded i 0 ≡ 0) → ((a : ℕ) → a < length block → get_or padded (8 + a) 0 ≡ get_or block a 0) → ((i : ℕ) → i < 8 → get_or padded (length block + 8 + i) 0 ≡ 0)
    → crossed_by part masses padded (k + 8) ≡ meeting masses (λ a. part (get_or block a 0)) (length block) k
padded_is part masses padded block k none within long before inside after =
    let n = length block in
    let f : ℕ → ℕ = λ a. part (get_or block a 0) in
    sum_below-same (length masses) (λ b. get_or masses b 0 * part (get_or padded (k + 8 - b) 0)) (λ b. get_or masses b 0 * met f 0 n k b) (λ b below.
    ap (λ (x : ℕ). get_or masses b 0 * x)
    (⊎_elim (λ (early : k < b).
    let zero_there : get_or padded (k + 8 - b) 0 ≡ 0 = before (k + 8 - b) (omega arith) in
    ap part zero_there ∙ none ∙ sym (met-early f 0 n k b (omega arith)))
    (λ (from : b ≤ k). ⊎_elim (λ (there_is : k < n + b).
    let there : 8 + (k - b) ≡ k + 8 - b = omega arith in
    let value : get_or padded (k + 8 - b) 0 ≡ get_or block (k - b) 0 = ap (λ (i : ℕ). get_or padded i 0) (sym there) ∙ inside (k - b) (omega arith) in
    ap part value ∙ sym (met-in f 0 n k b (omega arith) there_is))
    (λ (past : n + b ≤ k).
    let zero_there : get_or padded (k + 8 - b) 0 ≡ 0 = zeros_past padded n (k + 8 - b) long after (omega arith) in
    ap part zero_there ∙ none ∙ sym (met-late f 0 n k b past))
    (cases_lt k (n + b)))
    (cases_lt k b)))

-- ---- halves
join : (m x y z : ℕ) → x + 4294967296 * y ≡ z → m * x + 4294967296 * (m * y) ≡ m * z
join m x y z e =
    let h : m * (x + 4294967296 * y) ≡ m * z = ap (λ (w : ℕ). m * w) e in
    omega arith

met-halves : (f : ℕ → ℕ) (size place b : ℕ) → met (λ a. low_half (f a)) 0 size place b + 4294967296 * met (λ a. high_half (f a)) 0 size place b ≡ met f 0 size place b
met-halves f size place b =
    ⊎_elim (λ (early : place < b). rw (met-early (λ a. low_half (f a)) 0 size place b (omega arith), met-early (λ a. high_half (f a)) 0 size place b (omega arith), met-early f 0 size place b (omega arith)) (omega arith))
    (λ (from : b ≤ place). ⊎_elim
    (λ (within : place < size + b). rw (met-in (λ a. low_half (f a)) 0 size place b (omega arith) within, met-in (λ a. high_half (f a)) 0 size place b (omega arith) within, met-in f 0 size place b (omega arith) within) (omega arith))
    (λ (past : size + b ≤ place). rw (met-late (λ a. low_half (f a)) 0 size place b past, met-late (λ a. high_half (f a)) 0 size place b past, met-late f 0 size place b past) (omega arith))
    (cases_lt place (size + b)))
    (cases_lt place b)

pub halves-below : (masses : List ℕ) (f : ℕ → ℕ) (size place n : ℕ)
    → meeting_below masses (λ a. low_half (f a)) size place n + 4294967296 * meeting_below masses (λ a. high_half (f a)) size place n ≡ meeting_below masses f size place n
halves-below masses f size place zero = omega arith
halves-below masses f size place (suc n) =
    omega (
      arith,
      halves-below masses f size place n,
      join (get_or masses n 0) (met (λ a. low_half (f a)) 0 size place n) (met (λ a. high_half (f a)) 0 size place n) (met f 0 size place n) (met-halves f size place n),
    )

-- what meets is limited by the masses that meet a value
pub limit-below : (masses : List ℕ) (f : ℕ → ℕ) (limit size place n : ℕ) → ((a : ℕ) → f a ≤ limit) → meeting_below masses f size place n ≤ meeting_below masses (λ a. 1) size place n * limit
limit-below masses f limit size place zero low = omega arith
limit-below masses f limit size place (suc n) low =
    let m = get_or masses n 0 in
    let one : met f 0 size place n ≤ met (λ a. 1) 0 size place n * limit =
    ⊎_elim (λ (early : place < n). rw (met-early f 0 size place n (omega arith)) (omega arith))
    (λ (from : n ≤ place). ⊎_elim
    (λ (within : place < size + n). rw (met-in f 0 size place n (omega arith) within, met-in (λ a. 1) 0 size place n (omega arith) within) (omega (arith, low (place - n))))
    (λ (past : size + n ≤ place). rw (met-late f 0 size place n past) (omega arith))
    (cases_lt place (size + n)))
    (cases_lt place n) in
    let term : m * met f 0 size place n ≤ m * (met (λ a. 1) 0 size place n * limit) = mul-le-mul_left m one in
    let swap : m * (met (λ a. 1) 0 size place n * limit) ≡ (m * met (λ a. 1) 0 size place n) * limit = sym (mul_assoc m (met (λ a. 1) 0 size place n) limit) in
    let all = limit-below masses f limit size place n low in
    let parts : (meeting_below masses (λ a. 1) size place n + m * met (λ a. 1) 0 size place n) * limit ≡ meeting_below masses (λ a. 1) size place n * limit + (m * met (λ a. 1) 0 size place n) * limit = add-mul (meeting_below masses (λ a. 1) size place n) (m * met (λ a. 1) 0 size place n) limit in
    omega arith

-- two halves that were added make the products that were added
pub joined_is : (masses : List ℕ) (f : ℕ → ℕ) (size k low high low' high' : ℕ)
    → low' ≡ low + meeting masses (λ a. low_half (f a)) size k → high' ≡ high + meeting masses (λ a. high_half (f a)) size k
    → low' + 4294967296 * high' ≡ low + 4294967296 * high + meeting masses f size k
joined_is masses f size k low high low' high' a b = omega (arith, halves-below masses f size k (length masses))

pub low-le : (masses : List ℕ) (f : ℕ → ℕ) (size k : ℕ) → meeting masses (λ a. low_half (f a)) size k ≤ meeting masses (λ a. 1) size k * 4294967295
low-le masses f size k = limit-below masses (λ a. low_half (f a)) 4294967295 size k (length masses) (λ a. omega arith)

pub high-le : (masses : List ℕ) (f : ℕ → ℕ) (size k : ℕ) → ((a : ℕ) → f a < 18446744073709551616) → meeting masses (λ a. high_half (f a)) size k ≤ meeting masses (λ a. 1) size k * 4294967295
high-le masses f size k small = limit-below masses (λ a. high_half (f a)) 4294967295 size k (length masses) (λ a. let s = small a in omega arith)

-- ---- coefficients of a product
pub coefficient_meets : (masses values : List ℕ) (k : ℕ) → coefficient masses values k ≡ meeting masses (λ a. get_or values a 0) (length values) k
coefficient_meets masses values k =
    let n = length masses in
    let size = length values in
    let h : ℕ → ℕ = λ b. get_or masses b 0 * met (λ a. get_or values a 0) 0 size k b in
    let front : sum_below (suc k) (λ b. get_or masses b 0 * get_or values (k - b) 0) ≡ sum_below (suc k) h = sum_below-same (suc k) (λ b. get_or masses b 0 * get_or values (k - b) 0) h (λ b below.
    ap (λ (x : ℕ). get_or masses b 0 * x)
    (⊎_elim (λ (within : k < size + b). sym (met-in (λ a. get_or values a 0) 0 size k b (omega arith) within))
    (λ (past : size + b ≤ k). get_or_past values (k - b) 0 (omega arith) ∙ sym (met-late (λ a. get_or values a 0) 0 size k b past))
    (cases_lt k (size + b)))) in
    let early : sum_below n (λ i. h (suc k + i)) ≡ 0 = sum_below-zero n (λ i. h (suc k + i)) (λ i below.
    let none : met (λ a. get_or values a 0) 0 size k (suc k + i) ≡ 0 = met-early (λ a. get_or values a 0) 0 size k (suc k + i) (omega arith) in
    ap (λ (x : ℕ). get_or masses (suc k + i) 0 * x) none ∙ omega arith) in
    let late : sum_below (suc k) (λ i. h (n + i)) ≡ 0 = sum_below-zero (suc k) (λ i. h (n + i)) (λ i below.
    let none : get_or masses (n + i) 0 ≡ 0 = get_or_past masses (n + i) 0 (omega arith) in
    ap (λ (x : ℕ). x * met (λ a. get_or values a 0) 0 size k (n + i)) none ∙ omega arith) in
    let swap : suc k + n ≡ n + suc k = omega arith in
    rw coefficient-sum (front ∙ omega (arith, sum_below-add (suc k) n h, sum_below-add n (suc k) h, early, late, ap (λ (m : ℕ). sum_below m h) swap))

-- a folded product's halves are as small as those of the plain one
pub folded_small : (masses values : List ℕ) (k c : ℕ) → ((a : ℕ) → get_or values a 0 ≤ ONE) → c ≡ meeting masses (λ a. get_or values a 0) (length values) k
    → (low_half c ≤ meeting masses (λ a. 1) (length values) k * 4294967295) × (high_half c ≤ meeting masses (λ a. 1) (length values) k * 4294967295)
folded_small masses values k c small is =
    let w : ℕ = meeting masses (λ a. 1) (length values) k in
    let most : c ≤ w * ONE = rw is (limit-below masses (λ a. get_or values a 0) ONE (length values) k (length masses) small) in
    (half w c most, omega arith)
  where
    half : (w c : ℕ) → c ≤ w * ONE → c % 4294967296 ≤ w * 4294967295
    half zero c most = omega arith
    half (suc w) c most = omega arith

-- no mass meets two values
pub meeting-le-sum : (masses : List ℕ) (size k : ℕ) → meeting masses (λ a. 1) size k ≤ sum masses
meeting-le-sum masses size k = omega (arith, below (length masses), sum_below-list masses)
  where
    below : (n : ℕ) → meeting_below masses (λ a. 1) size k n ≤ sum_below n (λ b. get_or masses b 0)
    below zero = omega arith
    below (suc n) =
        let m = get_or masses n 0 in
        let one : m * met (λ a. 1) 0 size k n ≤ m = met-cases (λ v. m * v ≤ m) (λ a. 1) 0 size k n (omega arith) (λ a b. omega arith) in
        omega (arith, below n)

-- no mass, nothing meets
pub meeting-none : (masses : List ℕ) (f : ℕ → ℕ) (size k : ℕ) → ((b : ℕ) → b < length masses → get_or masses b 0 ≡ 0) → meeting masses f size k ≡ 0
meeting-none masses f size k none =
    sum_below-zero (length masses) (λ b. get_or masses b 0 * met f 0 size k b) (λ b below. ap (λ (x : ℕ). x * met f 0 size k b) (none b below) ∙ omega arith)

-- the coefficients of a product of narrow blocks
pub narrow_is : (kernel masses values padded : List ℕ) (k : ℕ) → masses ≡ kernel → length kernel ≤ length values → length padded ≡ length values + 16
    → ((i : ℕ) → i < 8 → get_or padded i 0 ≡ 0) → ((a : ℕ) → a < length values → get_or padded (8 + a) 0 ≡ get_or values a 0) → ((i : ℕ) → i < 8 → get_or padded (length values + 8 + i) 0 ≡ 0)
    → crossed_by (λ v. v) masses padded (k + 8) ≡ coefficient kernel values k
narrow_is kernel masses values padded k is within long before inside after =
    ap (λ (xs : List ℕ). crossed_by (λ v. v) xs padded (k + 8)) is ∙ padded_is (λ v. v) kernel padded values k refl within long before inside after ∙ sym (coefficient_meets kernel values k)
