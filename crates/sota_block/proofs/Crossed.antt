-- The plain product's coefficients, from the parts of the two lists that meet there.
use Rattle.std.proofs.Common.{◌≡◌, ℕ, suc, ◌+◌, ◌-◌, ◌*◌, ◌<◌, List, length, get_or, take, drop, refl, ap, ◌∙◌, arith, length-take, length-drop, get_or-take, get_or-drop}
use Rattle.std.proofs.lemmas.List.{get_or_past}
use Rattle.sota_block.specs.Product.{sum_below, coefficient}
use Rattle.sota_block.proofs.Sums.{sum_below-same, sum_below-zero, sum_below-add}
use Rattle.sota_block.proofs.Convolution.{coefficient-sum}

-- each of xs times the one of ys that stands as far from the other end
abbrev pub crossed_sum : List ℕ → List ℕ → ℕ
crossed_sum xs ys = sum_below (length xs) (λ b. get_or xs b 0 * get_or ys (length xs - 1 - b) 0)

-- the first k + 1 of both give coefficient k
pub crossed_sum-take : (xs ys : List ℕ) (k : ℕ) → k < length xs → crossed_sum (take (k + 1) xs) (take (k + 1) ys) ≡ coefficient xs ys k
crossed_sum-take xs ys k inside =
    let long : length (take (k + 1) xs) ≡ suc k = omega (arith, length-take (k + 1) xs) in
    rw (long, coefficient-sum) (sum_below-same (suc k) (λ b. get_or (take (k + 1) xs) b 0 * get_or (take (k + 1) ys) (suc k - 1 - b) 0) (λ b. get_or xs b 0 * get_or ys (k - b) 0) (λ b below.
    let place : suc k - 1 - b ≡ k - b = omega arith in
    rw (place, get_or-take (k + 1) xs b 0 (omega arith), get_or-take (k + 1) ys (k - b) 0 (omega arith)) refl))

-- the others give the coefficient as far past the length
pub crossed_sum-drop : (xs ys : List ℕ) (k : ℕ) → length ys ≡ length xs → k < length xs → crossed_sum (drop (k + 1) xs) (drop (k + 1) ys) ≡ coefficient xs ys (length xs + k)
crossed_sum-drop xs ys k same inside =
    let n = length xs in
    let m = length (drop (k + 1) xs) in
    let long : m + suc k ≡ n = omega (arith, length-drop (k + 1) xs) in
    let terms = λ (b : ℕ). get_or xs b 0 * get_or ys ((n + k) - b) 0 in
    let front = sum_below-zero (suc k) terms (λ b below. rw (get_or_past ys ((n + k) - b) 0 (omega arith)) (omega arith)) in
    let middle = sum_below-same m (λ i. terms (suc k + i)) (λ b. get_or (drop (k + 1) xs) b 0 * get_or (drop (k + 1) ys) (m - 1 - b) 0) (λ b below.
    let here : (k + 1) + b ≡ suc k + b = omega arith in
    let there : (k + 1) + (m - 1 - b) ≡ (n + k) - (suc k + b) = omega arith in
    rw (get_or-drop (k + 1) xs b 0, get_or-drop (k + 1) ys (m - 1 - b) 0, here, there) refl) in
    let end = sum_below-zero (suc k) (λ j. terms (suc k + (m + j))) (λ j below. rw (get_or_past xs (suc k + (m + j)) 0 (omega arith)) (omega arith)) in
    let places : suc (n + k) ≡ suc k + (m + suc k) = omega arith in
    rw coefficient-sum
    (omega (arith, ap (λ i. sum_below i terms) places, sum_below-add (suc k) (m + suc k) terms, sum_below-add m (suc k) (λ i. terms (suc k + i)), front, middle, end))

-- the same for the parts that a call splits off
pub near_is : (xs ys near near' : List ℕ) (k result : ℕ) → near ≡ take (k + 1) xs → near' ≡ take (k + 1) ys → k < length xs → result ≡ crossed_sum near near' → result ≡ coefficient xs ys k
near_is xs ys near near' k result e e' inside is = is ∙ rw (e, e') (crossed_sum-take xs ys k inside)

pub far_is : (xs ys far far' : List ℕ) (k result : ℕ) → far ≡ drop (k + 1) xs → far' ≡ drop (k + 1) ys → length ys ≡ length xs → k < length xs → result ≡ crossed_sum far far' → result ≡ coefficient xs ys (length xs + k)
far_is xs ys far far' k result e e' same inside is = is ∙ rw (e, e') (crossed_sum-drop xs ys k same inside)
