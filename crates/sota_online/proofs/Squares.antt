-- Which products are done after k feeds.
use Rattle.std.proofs.Common.{◌≡◌, ℕ, zero, suc, ◌+◌, ◌-◌, ◌*◌, ◌/◌, ◌%◌, ◌<◌, ◌≤◌, ◌^◌, cond, ltb, List, get_or, sum, refl, sym, ◌∙◌, ap, subst, ⊎_elim, arith}
use Rattle.std.proofs.lemmas.Bool.{cases_lt, cases_eq}
use Rattle.std.proofs.lemmas.Bool.Decides.{nat_tests}
use Rattle.std.proofs.lemmas.Nat.{pow_pos}
use Rattle.std.proofs.Math.Nat.{mul-le-mul_right, mul-mod_left, div-add-mod, pow-suc, pow-le-pow_right}
use Rattle.sota_block.specs.Product.{sum_below}
use Rattle.sota_block.proofs.Sums.{sum_below-same, sum_below-zero, sum_below-add, sum_below-plus, sum_below-list-le}
use Rattle.sota_block.specs.Meeting.{met}
use Rattle.sota_block.proofs.Partners.{met-in, met-early, met-late, met-cases}
use Rattle.sota_online.specs.Squares.{square, levels, halved, whole_blocks, reached, numbered, HoldsProducts}

-- values up to `to`, in two parts
pub met-parts : (f : ℕ → ℕ) (mid to p b : ℕ) → mid ≤ to → met f 0 to p b ≡ met f 0 mid p b + met f mid to p b
met-parts f mid to p b inside =
    ⊎_elim (λ (early : p < b). rw (met-early f 0 to p b (omega arith), met-early f 0 mid p b (omega arith), met-early f mid to p b (omega arith)) refl)
    (λ (there : b ≤ p).
    ⊎_elim (λ (first : p < mid + b). rw (met-in f 0 to p b (omega arith) (omega arith), met-in f 0 mid p b (omega arith) (omega arith), met-early f mid to p b (omega arith)) (omega arith))
    (λ (second : mid + b ≤ p).
    ⊎_elim (λ (within : p < to + b). rw (met-in f 0 to p b (omega arith) (omega arith), met-late f 0 mid p b (omega arith), met-in f mid to p b (omega arith) (omega arith)) (omega arith))
    (λ (past : to + b ≤ p). rw (met-late f 0 to p b (omega arith), met-late f 0 mid p b (omega arith), met-late f mid to p b (omega arith)) refl)
    (cases_lt p (to + b)))
    (cases_lt p (mid + b)))
    (cases_lt p b)

pub met-same : (f g : ℕ → ℕ) (from to p b : ℕ) → ((a : ℕ) → a < to → f a ≡ g a) → met f from to p b ≡ met g from to p b
met-same f g from to p b same =
    ⊎_elim (λ (early : p < from + b). rw (met-early f from to p b early, met-early g from to p b early) refl)
    (λ (there : from + b ≤ p).
    ⊎_elim (λ (within : p < to + b). rw (met-in f from to p b there within, met-in g from to p b there within) (same (p - b) (omega arith)))
    (λ (past : to + b ≤ p). rw (met-late f from to p b past, met-late g from to p b past) refl) (cases_lt p (to + b)))
    (cases_lt p (from + b))

times_zero : (x y : ℕ) → y ≡ 0 → x * y ≡ 0
times_zero x y none = ap (λ (z : ℕ). x * z) none ∙ omega arith

-- ---- squares
pub square-parts : (m f : ℕ → ℕ) (s mid to p : ℕ) → mid ≤ to → square m f s 0 to p ≡ square m f s 0 mid p + square m f s mid to p
square-parts m f s mid to p inside =
    sum_below-same s (λ i. m (s + i) * met f 0 to p (s + i)) (λ i. m (s + i) * met f 0 mid p (s + i) + m (s + i) * met f mid to p (s + i))
    (λ i below. rw (met-parts f mid to p (s + i) inside) (omega arith))
    ∙ sum_below-plus s (λ i. m (s + i) * met f 0 mid p (s + i)) (λ i. m (s + i) * met f mid to p (s + i))

-- a square lands at two blocks of positions, the last of which gets nothing
pub square-before : (m f : ℕ → ℕ) (s from to p : ℕ) → p < from + s → square m f s from to p ≡ 0
square-before m f s from to p early =
    sum_below-zero s (λ i. m (s + i) * met f from to p (s + i)) (λ i below. times_zero (m (s + i)) (met f from to p (s + i)) (met-early f from to p (s + i) (omega arith)))

pub square-after : (m f : ℕ → ℕ) (s from to p : ℕ) → to + (s + s) ≤ p → square m f s from to p ≡ 0
square-after m f s from to p late =
    sum_below-zero s (λ i. m (s + i) * met f from to p (s + i)) (λ i below. times_zero (m (s + i)) (met f from to p (s + i)) (met-late f from to p (s + i) (omega arith)))

pub square-same : (m f g : ℕ → ℕ) (s from to p : ℕ) → ((a : ℕ) → a < to → f a ≡ g a) → square m f s from to p ≡ square m g s from to p
square-same m f g s from to p same =
    sum_below-same s (λ i. m (s + i) * met f from to p (s + i)) (λ i. m (s + i) * met g from to p (s + i)) (λ i below. ap (λ (v : ℕ). m (s + i) * v) (met-same f g from to p (s + i) same))

pub square-no_masses : (m f : ℕ → ℕ) (s from to p : ℕ) → ((b : ℕ) → s ≤ b → m b ≡ 0) → square m f s from to p ≡ 0
square-no_masses m f s from to p none =
    sum_below-zero s (λ i. m (s + i) * met f from to p (s + i)) (λ i below. ap (λ (x : ℕ). x * met f from to p (s + i)) (none (s + i) (omega arith)) ∙ omega arith)

-- each mass meets at most one value
pub square-le : (m : ℕ → ℕ) (s from to p : ℕ) → square m (λ a. 1) s from to p ≤ sum_below s (λ i. m (s + i))
square-le m s from to p = sums-le s (λ i. m (s + i) * met (λ a. 1) from to p (s + i)) (λ i. m (s + i)) (λ i below.
    met-cases (λ v. m (s + i) * v ≤ m (s + i)) (λ a. 1) from to p (s + i) (omega arith) (λ a b. omega arith))
  where
    sums-le : (n : ℕ) (f g : ℕ → ℕ) → ((k : ℕ) → k < n → f k ≤ g k) → sum_below n f ≤ sum_below n g
    sums-le zero f g low = omega arith
    sums-le (suc n) f g low = omega (arith, sums-le n f g (λ k below. low k (omega arith)), low n (omega arith))

-- ---- levels
-- one term of a sum that grows
pub sum_below-at : (n r d : ℕ) (f g : ℕ → ℕ) → r < n → ((q : ℕ) → (q ≡ r → ⊥) → g q ≡ f q) → g r ≡ f r + d → sum_below n g ≡ sum_below n f + d
sum_below-at zero r d f g below others grows = absurd (omega arith)
sum_below-at (suc n) r d f g below others grows =
    ⊎_elim (λ (last : r ≡ n).
    let same : sum_below n g ≡ sum_below n f = sum_below-same n g f (λ k k_below. others k (λ e. omega arith)) in
    let grows' : g n ≡ f n + d = rw (← last) grows in
    omega arith)
    (λ (earlier : r ≡ n → ⊥).
    omega (arith, sum_below-at n r d f g (omega arith) others grows, others n (λ e. earlier (sym e))))
    (cases_eq r n)

-- one level meets more values
pub levels-more : (m f reach reach' : ℕ → ℕ) (R r p : ℕ) → r < R → ((q : ℕ) → (q ≡ r → ⊥) → reach' q ≡ reach q) → reach r ≤ reach' r
    → levels m f reach' R p ≡ levels m f reach R p + square m f (2 ^ r) (reach r) (reach' r) p
unfolding levels
levels-more m f reach reach' R r p below others grows =
    sum_below-at R r (square m f (2 ^ r) (reach r) (reach' r) p) (λ q. square m f (2 ^ q) 0 (reach q) p) (λ q. square m f (2 ^ q) 0 (reach' q) p) below
    (λ q apart. ap (λ (n : ℕ). square m f (2 ^ q) 0 n p) (others q apart)) (square-parts m f (2 ^ r) (reach r) (reach' r) p grows)

-- levels that meet as many values, or have no masses
pub levels-agree : (m f reach reach' : ℕ → ℕ) (R p : ℕ) → ((q : ℕ) → q < R → square m f (2 ^ q) 0 (reach q) p ≡ square m f (2 ^ q) 0 (reach' q) p) → levels m f reach R p ≡ levels m f reach' R p
unfolding levels
levels-agree m f reach reach' R p same = sum_below-same R (λ q. square m f (2 ^ q) 0 (reach q) p) (λ q. square m f (2 ^ q) 0 (reach' q) p) same

pub levels-same : (m f g reach : ℕ → ℕ) (R n p : ℕ) → ((a : ℕ) → a < n → f a ≡ g a) → ((r : ℕ) → reach r ≤ n) → levels m f reach R p ≡ levels m g reach R p
unfolding levels
levels-same m f g reach R n p same within =
    sum_below-same R (λ q. square m f (2 ^ q) 0 (reach q) p) (λ q. square m g (2 ^ q) 0 (reach q) p) (λ q below. square-same m f g (2 ^ q) 0 (reach q) p (λ a a_below. same a (omega (arith, within q))))

-- nothing is met at first
pub levels-none : (m f reach : ℕ → ℕ) (R p : ℕ) → ((r : ℕ) → r < R → reach r ≡ 0) → levels m f reach R p ≡ 0
unfolding levels
levels-none m f reach R p none =
    sum_below-zero R (λ q. square m f (2 ^ q) 0 (reach q) p) (λ q below. rw (none q below) (square-nothing m f (2 ^ q) p))
  where
    square-nothing : (m f : ℕ → ℕ) (s p : ℕ) → square m f s 0 0 p ≡ 0
    square-nothing m f s p =
        sum_below-zero s (λ i. m (s + i) * met f 0 0 p (s + i)) (λ i below. times_zero (m (s + i)) (met f 0 0 p (s + i)) (met-cases (λ v. v ≡ 0) f 0 0 p (s + i) refl (λ a b. absurd (omega arith))))

-- the masses of the first levels are those below a power of two, less one since they are counted from 1
pub powers : (r : ℕ) → (1 ≤ 2 ^ r) × (2 ^ suc r - 1 ≡ (2 ^ r - 1) + 2 ^ r)
powers r = (pow_pos r, omega (arith, pow-suc 2 r, pow_pos r))

-- no mass meets two values
pub levels-le : (m reach : ℕ → ℕ) (R p : ℕ) → levels m (λ a. 1) reach R p ≤ sum_below (2 ^ R - 1) (λ i. m (suc i))
unfolding levels
levels-le m reach zero p = omega arith
levels-le m reach (suc r) p =
    let s : ℕ = 2 ^ r in
    let whole : sum_below (2 ^ suc r - 1) (λ i. m (suc i)) ≡ sum_below (s - 1) (λ i. m (suc i)) + sum_below s (λ i. m (suc ((s - 1) + i))) = ap (λ (n : ℕ). sum_below n (λ i. m (suc i))) (powers r).1 ∙ sum_below-add (s - 1) s (λ i. m (suc i)) in
    let last : sum_below s (λ i. m (suc ((s - 1) + i))) ≡ sum_below s (λ i. m (s + i)) = sum_below-same s (λ i. m (suc ((s - 1) + i))) (λ i. m (s + i)) (λ i below. ap m (let e : suc ((s - 1) + i) ≡ s + i = omega (arith, (powers r).0) in e)) in
    omega (arith, levels-le m reach r p, square-le m s 0 (reach r) p)

-- levels that meet nothing leave out their masses
levels-start : (m f reach : ℕ → ℕ) (first R p : ℕ) → first ≡ R → ((r : ℕ) → r < first → reach r ≡ 0)
    → levels m f reach R p + sum_below (2 ^ first - 1) (λ i. m (suc i) * met f 0 p p (suc i)) ≡ sum_below (2 ^ R - 1) (λ i. m (suc i) * met f 0 p p (suc i))
levels-start m f reach first R p here none =
    let nothing : levels m f reach R p ≡ 0 = levels-none m f reach R p (λ r below. none r (omega arith)) in
    let same : sum_below (2 ^ first - 1) (λ i. m (suc i) * met f 0 p p (suc i)) ≡ sum_below (2 ^ R - 1) (λ i. m (suc i) * met f 0 p p (suc i)) = ap (λ (n : ℕ). sum_below (2 ^ n - 1) (λ i. m (suc i) * met f 0 p p (suc i))) here in
    omega arith

-- one level more
levels-one : (m f reach : ℕ → ℕ) (first r p : ℕ) → p < reach r + 2 ^ r
    → levels m f reach r p + sum_below (2 ^ first - 1) (λ i. m (suc i) * met f 0 p p (suc i)) ≡ sum_below (2 ^ r - 1) (λ i. m (suc i) * met f 0 p p (suc i))
    → levels m f reach (suc r) p + sum_below (2 ^ first - 1) (λ i. m (suc i) * met f 0 p p (suc i)) ≡ sum_below (2 ^ suc r - 1) (λ i. m (suc i) * met f 0 p p (suc i))
unfolding levels
levels-one m f reach first r p near before =
    let s : ℕ = 2 ^ r in
    let h : ℕ → ℕ = λ i. m (suc i) * met f 0 p p (suc i) in
    let whole : sum_below (2 ^ suc r - 1) h ≡ sum_below (s - 1) h + sum_below s (λ i. h ((s - 1) + i)) = ap (λ (n : ℕ). sum_below n h) (powers r).1 ∙ sum_below-add (s - 1) s h in
    let last : sum_below s (λ i. h ((s - 1) + i)) ≡ square m f s 0 (reach r) p = sum_below-same s (λ i. h ((s - 1) + i)) (λ i. m (s + i) * met f 0 (reach r) p (s + i)) (λ i below.
    let e : suc ((s - 1) + i) ≡ s + i = omega (arith, (powers r).0) in
    let meets : met f 0 p p (s + i) ≡ met f 0 (reach r) p (s + i) =
    ⊎_elim (λ (early : p < s + i). rw (met-early f 0 p p (s + i) (omega arith), met-early f 0 (reach r) p (s + i) (omega arith)) refl)
    (λ (there : s + i ≤ p). rw (met-in f 0 p p (s + i) (omega arith) (omega (arith, (powers r).0)), met-in f 0 (reach r) p (s + i) (omega arith) (omega (arith, near))) refl)
    (cases_lt p (s + i)) in
    ap (λ (b : ℕ). m b * met f 0 p p b) e ∙ ap (λ (v : ℕ). m (s + i) * v) meets) in
    omega (arith, before)

-- THE PARTITION: at a position that the blocks have reached, the levels from `first` on and the masses below them together
-- hold each product once
pub levels-all : (m f reach : ℕ → ℕ) (first R p : ℕ) → first ≤ R → ((r : ℕ) → r < first → reach r ≡ 0) → ((r : ℕ) → first ≤ r → r < R → p < reach r + 2 ^ r)
    → levels m f reach R p + sum_below (2 ^ first - 1) (λ i. m (suc i) * met f 0 p p (suc i)) ≡ sum_below (2 ^ R - 1) (λ i. m (suc i) * met f 0 p p (suc i))
levels-all m f reach first zero p low none far = levels-start m f reach first zero p (omega arith) none
levels-all m f reach first (suc r) p low none far =
    ⊎_elim (λ (here : first ≡ suc r). levels-start m f reach first (suc r) p here none)
    (λ (apart : first ≡ suc r → ⊥). levels-one m f reach first r p (far r (omega arith) (omega arith)) (levels-all m f reach first r p (omega arith) none (λ q from below. far q from (omega arith))))
    (cases_eq first (suc r))

pub levels-plain : (m f reach : ℕ → ℕ) (first R p : ℕ) → first ≤ R → ((r : ℕ) → r < first → reach r ≡ 0) → ((r : ℕ) → first ≤ r → r < R → p < reach r + 2 ^ r) → p < 2 ^ R
    → levels m f reach R p + sum_below (2 ^ first - 1) (λ i. m (suc i) * met f 0 p p (suc i)) ≡ sum_below p (λ i. m (suc i) * f (p - suc i))
levels-plain m f reach first R p low none far few =
    let h : ℕ → ℕ = λ i. m (suc i) * met f 0 p p (suc i) in
    let rest : ℕ = 2 ^ R - 1 - p in
    let size : 2 ^ R - 1 ≡ p + rest = omega arith in
    let back : sum_below rest (λ k. h (p + k)) ≡ 0 = sum_below-zero rest (λ k. h (p + k)) (λ k below. times_zero (m (suc (p + k))) (met f 0 p p (suc (p + k))) (met-early f 0 p p (suc (p + k)) (omega arith))) in
    let front : sum_below p h ≡ sum_below p (λ i. m (suc i) * f (p - suc i)) = sum_below-same p h (λ i. m (suc i) * f (p - suc i)) (λ i below. ap (λ (v : ℕ). m (suc i) * v) (met-in f 0 p p (suc i) (omega arith) (omega arith))) in
    levels-all m f reach first R p low none far ∙ ap (λ (n : ℕ). sum_below n h) size ∙ omega (arith, sum_below-add p rest h, back, front)

-- ---- blocks that are whole
pub halved-same : (n k r q : ℕ) → halved n r ≡ halved k r → r ≤ q → halved n q ≡ halved k q
halved-same n k r zero same later = let e : r ≡ 0 = omega arith in rw e at same
halved-same n k r (suc q) same later =
    ⊎_elim (λ (here : r ≡ suc q). subst (λ (x : ℕ). halved n x ≡ halved k x) here same) (λ (apart : r ≡ suc q → ⊥). ap (λ (x : ℕ). x / 2) (halved-same n k r q same (omega arith))) (cases_eq r (suc q))

-- of n values the whole blocks leave less than a block
pub whole-near : (n r : ℕ) → (whole_blocks n r ≤ n) × (n < whole_blocks n r + 2 ^ r)
whole-near n zero = (omega arith, omega arith)
whole-near n (suc r) =
    let h : ℕ = halved n r in
    let s : ℕ = 2 ^ r in
    let before = whole-near n r in
    let double : 2 ^ suc r ≡ 2 * s = omega (arith, pow-suc 2 r) in
    let product : (h / 2) * 2 ^ suc r ≡ (2 * (h / 2)) * s = rw double (omega arith) in
    let low : (2 * (h / 2)) * s ≤ h * s = mul-le-mul_right s (omega arith) in
    let high : h * s ≤ (2 * (h / 2) + 1) * s = mul-le-mul_right s (omega arith) in
    let high' : (2 * (h / 2) + 1) * s ≡ (2 * (h / 2)) * s + s = omega arith in
    (omega (arith, before.0), omega (arith, before.1))

-- so many blocks are whole
pub div_whole : (k s : ℕ) → k % s ≡ 0 → k / s * s ≡ k
div_whole k s none = let e : s * (k / s) + k % s ≡ k = div-add-mod k s in omega arith

quotient_is : (b c s n : ℕ) → b * s ≤ n → n < b * s + s → c * s ≤ n → n < c * s + s → b ≡ c
quotient_is b c s n low high low' high' =
    ⊎_elim (λ (less : b < c).
    let step : (b + 1) * s ≤ c * s = mul-le-mul_right s (omega arith) in
    let one : (b + 1) * s ≡ b * s + s = omega arith in
    absurd (omega arith))
    (λ (from : c ≤ b). ⊎_elim (λ (more : c < b).
    let step : (c + 1) * s ≤ b * s = mul-le-mul_right s (omega arith) in
    let one : (c + 1) * s ≡ c * s + s = omega arith in
    absurd (omega arith))
    (λ (up : b ≤ c). omega arith)
    (cases_lt c b))
    (cases_lt b c)

-- levels below the first meet nothing, and the others their whole blocks
pub reached-below : (first n r : ℕ) → r < first → reached first n r ≡ 0
reached-below first n r below = grind (arith, nat_tests)

pub reached-from : (first n r : ℕ) → first ≤ r → reached first n r ≡ whole_blocks n r
reached-from first n r from = grind (arith, nat_tests)

pub reached-le : (first n r : ℕ) → reached first n r ≤ n
reached-le first n r =
    ⊎_elim (λ (below : r < first). rw (reached-below first n r below) (omega arith)) (λ (from : first ≤ r). rw (reached-from first n r from) (whole-near n r).0) (cases_lt r first)

pub reached-near : (first n r : ℕ) → first ≤ r → n < reached first n r + 2 ^ r
reached-near first n r from = rw (reached-from first n r from) (whole-near n r).1

-- a value that ends no block of the first level ends none of a higher one
pub reached-same : (first k r : ℕ) → (k % 2 ^ first ≡ 0 → ⊥) → reached first (k - 1) r ≡ reached first k r
reached-same first k r odd =
    ⊎_elim (λ (below : r < first). rw (reached-below first (k - 1) r below, reached-below first k r below) refl)
    (λ (from : first ≤ r).
    let s : ℕ = 2 ^ first in
    let h : ℕ = halved k first in
    let apart : h * s ≡ k → ⊥ = λ e. odd (ap (λ (n : ℕ). n % s) (sym e) ∙ mul-mod_left h s) in
    let now = whole-near k first in
    let before = whole-near (k - 1) first in
    let same : halved (k - 1) first ≡ h = quotient_is (halved (k - 1) first) h s (k - 1) (omega (arith, before.0)) (omega (arith, before.1)) (omega (arith, now.0, apart)) (omega (arith, now.1)) in
    reached-from first (k - 1) r from ∙ ap (λ (x : ℕ). x * 2 ^ r) (halved-same (k - 1) k first r same from) ∙ sym (reached-from first k r from))
    (cases_lt r first)

-- ---- a feed, level by level: the levels below r have met the blocks of k values, the others those of one value less
pub mixed : ℕ → ℕ → ℕ → ℕ → ℕ
mixed first k r q = cond (ltb q r) (reached first k q) (reached first (k - 1) q)

pub mixed-done : (first k r q : ℕ) → q < r → mixed first k r q ≡ reached first k q
unfolding mixed
mixed-done first k r q done = grind (arith, nat_tests)

pub mixed-left : (first k r q : ℕ) → r ≤ q → mixed first k r q ≡ reached first (k - 1) q
unfolding mixed
mixed-left first k r q left = grind (arith, nat_tests)

pub mixed-other : (first k r q : ℕ) → (q ≡ r → ⊥) → mixed first k (suc r) q ≡ mixed first k r q
mixed-other first k r q apart =
    ⊎_elim (λ (before : q < r). rw (mixed-done first k (suc r) q (omega arith), mixed-done first k r q before) refl)
    (λ (from : r ≤ q). rw (mixed-left first k (suc r) q (omega arith), mixed-left first k r q from) refl)
    (cases_lt q r)

-- before the first level
pub mixed-start : (first k q : ℕ) → mixed first k first q ≡ reached first (k - 1) q
mixed-start first k q =
    ⊎_elim (λ (before : q < first). rw (mixed-done first k first q before, reached-below first k q before, reached-below first (k - 1) q before) refl)
    (λ (from : first ≤ q). mixed-left first k first q from)
    (cases_lt q first)

-- what is known before level r: so far each block was the second half of a larger one
pub record Stands (first k r size blocks : ℕ) : Type 0 where
  pub from : first ≤ r
  pub size_is : size ≡ 2 ^ r
  pub blocks_is : blocks ≡ halved k r
  pub before_is : halved (k - 1) r + 1 ≡ blocks
  pub whole : blocks * size ≡ k

pub Stands-first : (first k size blocks : ℕ) → 1 ≤ k → size ≡ 2 ^ first → blocks * size ≡ k → Stands first k first size blocks
Stands-first first k size blocks some is whole =
    let s : ℕ = 2 ^ first in
    let some' : 1 ≤ s = pow_pos first in
    let whole' : blocks * s ≡ k = ap (λ (x : ℕ). blocks * x) (sym is) ∙ whole in
    let now = whole-near k first in
    let before = whole-near (k - 1) first in
    let one : 1 ≤ blocks = ⊎_elim (λ (none : blocks < 1). let e : blocks ≡ 0 = omega arith in let z : blocks * s ≡ 0 = ap (λ (x : ℕ). x * s) e ∙ omega arith in absurd (omega arith)) (λ (low : 1 ≤ blocks). low) (cases_lt blocks 1) in
    let less : (blocks - 1) * s + s ≡ k = (let e : (blocks - 1) + 1 ≡ blocks = omega arith in let t : ((blocks - 1) + 1) * s ≡ (blocks - 1) * s + s = omega arith in sym t ∙ ap (λ (x : ℕ). x * s) e ∙ whole') in
    let b : blocks ≡ halved k first = quotient_is blocks (halved k first) s k (omega arith) (omega arith) now.0 now.1 in
    let d : halved (k - 1) first ≡ blocks - 1 = quotient_is (halved (k - 1) first) (blocks - 1) s (k - 1) before.0 before.1 (omega arith) (omega arith) in
    record { from = omega arith; size_is = is; blocks_is = b; before_is = omega arith; whole = whole }

pub Stands-next : (first k r size blocks : ℕ) → Stands first k r size blocks → blocks % 2 ≡ 0 → Stands first k (suc r) (size * 2) (blocks / 2)
Stands-next first k r size blocks st even =
    let h : ℕ = blocks / 2 in
    let e : blocks ≡ h * 2 = omega arith in
    let product : h * (size * 2) ≡ (h * 2) * size = omega arith in
    let w : (h * 2) * size ≡ k = ap (λ (x : ℕ). x * size) (sym e) ∙ st.whole in
    let a = st.size_is in
    let b = st.blocks_is in
    let d = st.before_is in
    let c = st.from in
    record {
      from = omega arith;
      size_is = omega (arith, pow-suc 2 r);
      blocks_is = ap (λ (x : ℕ). x / 2) b;
      before_is = omega arith;
      whole = product ∙ w;
    }

-- the block that level r meets
pub Stands-block : (first k r size blocks : ℕ) → Stands first k r size blocks → (mixed first k r r ≡ k - size) × ((mixed first k (suc r) r ≡ k) × (size ≤ k))
Stands-block first k r size blocks st =
    let a = st.size_is in
    let b = st.blocks_is in
    let d = st.before_is in
    let after : whole_blocks k r ≡ blocks * size = ap (λ (x : ℕ). x * 2 ^ r) (sym b) ∙ ap (λ (x : ℕ). blocks * x) (sym a) in
    let h : ℕ = halved (k - 1) r in
    let product : (h + 1) * size ≡ k = ap (λ (x : ℕ). x * size) d ∙ st.whole in
    let early : whole_blocks (k - 1) r ≡ h * size = ap (λ (x : ℕ). h * x) (sym a) in
    let parts : (h + 1) * size ≡ h * size + size = omega arith in
    (mixed-left first k r r (omega arith) ∙ reached-from first (k - 1) r st.from ∙ omega arith, (mixed-done first k (suc r) r (omega arith) ∙ reached-from first k r st.from ∙ after ∙ st.whole, omega arith))

-- where no larger block is whole, the other levels have met what they meet
pub Stands-last : (first k r size blocks : ℕ) → Stands first k r size blocks → (blocks % 2 ≡ 0 → ⊥) → (q : ℕ) → mixed first k (suc r) q ≡ reached first k q
Stands-last first k r size blocks st odd q =
    let b = st.blocks_is in
    let d = st.before_is in
    let c = st.from in
    let halves : halved (k - 1) (suc r) ≡ halved k (suc r) = omega arith in
    ⊎_elim (λ (before : q < suc r). mixed-done first k (suc r) q before)
    (λ (from : suc r ≤ q).
    mixed-left first k (suc r) q from ∙ reached-from first (k - 1) q (omega arith) ∙ ap (λ (x : ℕ). x * 2 ^ q) (halved-same (k - 1) k (suc r) q halves from) ∙ sym (reached-from first k q (omega arith)))
    (cases_lt q (suc r))

-- a level's square is what the step adds
pub meets-next : (m g : ℕ → ℕ) (R first k r size blocks p : ℕ) → Stands first k r size blocks → r < R
    → levels m g (mixed first k (suc r)) R p ≡ levels m g (mixed first k r) R p + square m g size (k - size) k p
meets-next m g R first k r size blocks p st below =
    let block = Stands-block first k r size blocks st in
    let a = block.0 in
    let b = block.1.0 in
    let sized : 2 ^ r ≡ size = sym st.size_is in
    levels-more m g (mixed first k r) (mixed first k (suc r)) R r p below (λ q apart. mixed-other first k r q apart) (omega arith)
    ∙ ap (λ (x : ℕ). levels m g (mixed first k r) R p + square m g x (mixed first k r r) (mixed first k (suc r) r) p) sized
    ∙ ap (λ (x : ℕ). levels m g (mixed first k r) R p + square m g size x (mixed first k (suc r) r) p) a
    ∙ ap (λ (x : ℕ). levels m g (mixed first k r) R p + square m g size (k - size) x p) b

-- a level's square, added to two numbers that hold the products so far
pub Holds-next : (m f : ℕ → ℕ) (R first k r size blocks start p low high low' high' : ℕ) → Stands first k r size blocks → r < R
    → (start ≤ p → low' + 4294967296 * high' ≡ low + 4294967296 * high + square m f size (k - size) k p)
    → low' ≤ low + square m (λ a. 1) size (k - size) k p * 4294967295
    → high' ≤ high + square m (λ a. 1) size (k - size) k p * 4294967295
    → HoldsProducts m f (mixed first k r) R start p low high → HoldsProducts m f (mixed first k (suc r)) R start p low' high'
Holds-next m f R first k r size blocks start p low high low' high' st below sums lows highs held =
    let x = held.sum in
    let y = held.low_le in
    let z = held.high_le in
    record {
      sum = λ from. omega (arith, x from, sums from, meets-next m f R first k r size blocks p st below);
      low_le = omega (arith, meets-next m (λ a. 1) R first k r size blocks p st below);
      high_le = omega (arith, meets-next m (λ a. 1) R first k r size blocks p st below);
    }

-- levels that meet as much
pub Holds-same : (m f reach reach' : ℕ → ℕ) (R start p low high : ℕ) → ((g : ℕ → ℕ) → levels m g reach R p ≡ levels m g reach' R p) → HoldsProducts m f reach R start p low high → HoldsProducts m f reach' R start p low high
Holds-same m f reach reach' R start p low high same held =
    let x = held.sum in
    let y = held.low_le in
    let z = held.high_le in
    record { sum = λ from. omega (arith, x from, same f); low_le = omega (arith, same (λ a. 1)); high_le = omega (arith, same (λ a. 1)) }

pub Holds-reach : (m f reach reach' : ℕ → ℕ) (R start p low high : ℕ) → ((q : ℕ) → q < R → reach q ≡ reach' q) → HoldsProducts m f reach R start p low high → HoldsProducts m f reach' R start p low high
Holds-reach m f reach reach' R start p low high same held =
    Holds-same m f reach reach' R start p low high (λ g. levels-agree m g reach reach' R p (λ q below. ap (λ (n : ℕ). square m g (2 ^ q) 0 n p) (same q below))) held

-- the levels from r on have no masses
pub Holds-no_masses : (m f : ℕ → ℕ) (R first k r start p low high : ℕ) → ((b : ℕ) → 2 ^ r ≤ b → m b ≡ 0) → HoldsProducts m f (mixed first k r) R start p low high → HoldsProducts m f (reached first k) R start p low high
Holds-no_masses m f R first k r start p low high none held =
    Holds-same m f (mixed first k r) (reached first k) R start p low high (λ g. levels-agree m g (mixed first k r) (reached first k) R p (λ q below.
    ⊎_elim (λ (before : q < r). ap (λ (n : ℕ). square m g (2 ^ q) 0 n p) (mixed-done first k r q before))
    (λ (from : r ≤ q).
    let far : (b : ℕ) → 2 ^ q ≤ b → m b ≡ 0 = λ b low. none b (omega (arith, pow-le-pow_right {n = 2} (omega arith) {i = r} {j = q} from)) in
    square-no_masses m g (2 ^ q) 0 (mixed first k r q) p far ∙ sym (square-no_masses m g (2 ^ q) 0 (reached first k q) p far))
    (cases_lt q r))) held

-- a kernel without masses at any level meets nothing, however many values it reached
pub Holds-unmet : (m f : ℕ → ℕ) (R first n k start p low high : ℕ) → ((b : ℕ) → 2 ^ first ≤ b → m b ≡ 0) → HoldsProducts m f (reached first n) R start p low high → HoldsProducts m f (reached first k) R start p low high
Holds-unmet m f R first n k start p low high none held =
    Holds-same m f (reached first n) (reached first k) R start p low high (λ g. levels-agree m g (reached first n) (reached first k) R p (λ q below.
    ⊎_elim (λ (before : q < first). ap (λ (x : ℕ). square m g (2 ^ q) 0 x p) (reached-below first n q before ∙ sym (reached-below first k q before)))
    (λ (from : first ≤ q).
    let far : (b : ℕ) → 2 ^ q ≤ b → m b ≡ 0 = λ b low. none b (omega (arith, pow-le-pow_right {n = 2} (omega arith) {i = first} {j = q} from)) in
    square-no_masses m g (2 ^ q) 0 (reached first n q) p far ∙ sym (square-no_masses m g (2 ^ q) 0 (reached first k q) p far))
    (cases_lt q first))) held

-- the values may change where no level has met them
pub Holds-values : (m f g reach : ℕ → ℕ) (R n start p low high : ℕ) → ((a : ℕ) → a < n → f a ≡ g a) → ((r : ℕ) → reach r ≤ n) → HoldsProducts m f reach R start p low high → HoldsProducts m g reach R start p low high
Holds-values m f g reach R n start p low high same within held =
    let x = held.sum in
    let y = held.low_le in
    let z = held.high_le in
    record { sum = λ from. omega (arith, x from, levels-same m f g reach R n p same within); low_le = omega arith; high_le = omega arith }

-- neither number is large
pub weight-le : (kernel : List ℕ) (reach : ℕ → ℕ) (R p : ℕ) → levels (numbered kernel) (λ a. 1) reach R p ≤ sum kernel
weight-le kernel reach R p =
    let n : ℕ = 2 ^ R - 1 in
    let same : sum_below n (λ i. numbered kernel (suc i)) ≡ sum_below n (λ i. get_or kernel i 0) = sum_below-same n (λ i. numbered kernel (suc i)) (λ i. get_or kernel i 0) (λ i below. ap (λ (j : ℕ). get_or kernel j 0) (let e : suc i - 1 ≡ i = omega arith in e)) in
    omega (arith, levels-le (numbered kernel) reach R p, sum_below-list-le kernel n)
