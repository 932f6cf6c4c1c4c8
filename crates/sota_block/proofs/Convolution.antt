-- Products of polynomials whose coefficients are functions of the place, and the product of two blocks from products of
-- their halves.
use Rattle.std.proofs.Common.{◌≡◌, ℕ, suc, ◌+◌, ◌-◌, ◌*◌, ◌<◌, List, get_or, refl, ap, arith}
use Rattle.sota_block.specs.Product.{sum_below, coefficient}
use Rattle.sota_block.proofs.Sums.{sum_below-same, sum_below-zero, sum_below-add, sum_below-plus}

-- coefficient k of the product of f and g
pub product_at : (ℕ → ℕ) → (ℕ → ℕ) → ℕ → ℕ
product_at f g k = sum_below (suc k) (λ b. f b * g (k - b))

pub coefficient_is : (xs ys : List ℕ) (k : ℕ) → coefficient xs ys k ≡ product_at (λ i. get_or xs i 0) (λ i. get_or ys i 0) k
unfolding coefficient product_at
coefficient_is xs ys k = refl

pub coefficient-sum : (xs ys : List ℕ) (k : ℕ) → coefficient xs ys k ≡ sum_below (suc k) (λ b. get_or xs b 0 * get_or ys (k - b) 0)
unfolding coefficient
coefficient-sum xs ys k = refl

pub product_at-same : (f g f' g' : ℕ → ℕ) → ((i : ℕ) → f i ≡ f' i) → ((i : ℕ) → g i ≡ g' i) → (k : ℕ) → product_at f g k ≡ product_at f' g' k
unfolding product_at
product_at-same f g f' g' same_f same_g k =
    sum_below-same (suc k) (λ b. f b * g (k - b)) (λ b. f' b * g' (k - b)) (λ b below. rw (same_f b, same_g (k - b)) refl)

-- the product of two sums
pub product_at-plus : (a b c d : ℕ → ℕ) (k : ℕ) → product_at (λ i. a i + b i) (λ i. c i + d i) k ≡ (product_at a c k + product_at a d k) + (product_at b c k + product_at b d k)
unfolding product_at
product_at-plus a b c d k =
    let n = suc k in
    let ac = λ (i : ℕ). a i * c (k - i) in
    let ad = λ (i : ℕ). a i * d (k - i) in
    let bc = λ (i : ℕ). b i * c (k - i) in
    let bd = λ (i : ℕ). b i * d (k - i) in
    let expanded = sum_below-same n (λ i. (a i + b i) * (c (k - i) + d (k - i))) (λ i. (ac i + ad i) + (bc i + bd i)) (λ i below. omega arith) in
    omega (arith, expanded, sum_below-plus n (λ i. ac i + ad i) (λ i. bc i + bd i), sum_below-plus n ac ad, sum_below-plus n bc bd)

-- h places of f that are 0, and then f
abbrev pub IsShifted : ℕ → (ℕ → ℕ) → (ℕ → ℕ) → Type 0
IsShifted h f late = ((i : ℕ) → i < h → late i ≡ 0) × ((i : ℕ) → late (h + i) ≡ f i)

pub product_at-late-first : (h : ℕ) (f late g : ℕ → ℕ) → IsShifted h f late → (k : ℕ) → product_at late g (h + k) ≡ product_at f g k
unfolding product_at
product_at-late-first h f late g shifted k =
    let terms = λ (b : ℕ). late b * g ((h + k) - b) in
    let front = sum_below-zero h terms (λ b below. rw (shifted.0 b below) (omega arith)) in
    let back = sum_below-same (suc k) (λ b. terms (h + b)) (λ b. f b * g (k - b)) (λ b below.
    let e : (h + k) - (h + b) ≡ k - b = omega arith in
    rw (shifted.1 b, e) refl) in
    let places : suc (h + k) ≡ h + suc k = omega arith in
    omega (arith, ap (λ n. sum_below n terms) places, sum_below-add h (suc k) terms, front, back)

pub product_at-early-first : (h : ℕ) (f late g : ℕ → ℕ) → IsShifted h f late → (k : ℕ) → k < h → product_at late g k ≡ 0
unfolding product_at
product_at-early-first h f late g shifted k early =
    sum_below-zero (suc k) (λ b. late b * g (k - b)) (λ b below.
    let before : b < h = omega arith in
    rw (shifted.0 b before) (omega arith))

pub product_at-late-second : (h : ℕ) (g late f : ℕ → ℕ) → IsShifted h g late → (k : ℕ) → product_at f late (h + k) ≡ product_at f g k
unfolding product_at
product_at-late-second h g late f shifted k =
    let terms = λ (b : ℕ). f b * late ((h + k) - b) in
    let front = sum_below-same (suc k) terms (λ b. f b * g (k - b)) (λ b below.
    let e : (h + k) - b ≡ h + (k - b) = omega arith in
    rw (e, shifted.1 (k - b)) refl) in
    let back = sum_below-zero h (λ b. terms (suc k + b)) (λ b below.
    let before : (h + k) - (suc k + b) < h = omega arith in
    rw (shifted.0 ((h + k) - (suc k + b)) before) (omega arith)) in
    let places : suc (h + k) ≡ suc k + h = omega arith in
    omega (arith, ap (λ n. sum_below n terms) places, sum_below-add (suc k) h terms, front, back)

pub product_at-early-second : (h : ℕ) (g late f : ℕ → ℕ) → IsShifted h g late → (k : ℕ) → k < h → product_at f late k ≡ 0
unfolding product_at
product_at-early-second h g late f shifted k early =
    sum_below-zero (suc k) (λ b. f b * late (k - b)) (λ b below.
    let before : k - b < h = omega arith in
    rw (shifted.0 (k - b) before) (omega arith))
