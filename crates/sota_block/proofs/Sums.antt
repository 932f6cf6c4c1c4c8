-- Laws of sums over the numbers below n.
use Rattle.std.proofs.Common.{◌≡◌, ℕ, zero, suc, ◌+◌, ◌*◌, ◌<◌, ◌≤◌, List, [], ◌∷◌, length, get_or, sum, refl, add-zero, add-suc, arith}
use Rattle.std.proofs.lemmas.List.Sums.{sum_by-cons}
use Rattle.std.proofs.Math.Nat.{mul-le-mul_left}
use Rattle.sota_block.specs.Product.{sum_below}

pub sum_below-same : (n : ℕ) (f g : ℕ → ℕ) → ((k : ℕ) → k < n → f k ≡ g k) → sum_below n f ≡ sum_below n g
sum_below-same zero f g same = refl
sum_below-same (suc n) f g same = omega (arith, sum_below-same n f g (λ k below. same k (omega arith)), same n (omega arith))

pub sum_below-zero : (n : ℕ) (f : ℕ → ℕ) → ((k : ℕ) → k < n → f k ≡ 0) → sum_below n f ≡ 0
sum_below-zero zero f none = refl
sum_below-zero (suc n) f none = omega (arith, sum_below-zero n f (λ k below. none k (omega arith)), none n (omega arith))

-- one more term at the front
pub sum_below-first : (n : ℕ) (f : ℕ → ℕ) → sum_below (suc n) f ≡ f 0 + sum_below n (λ k. f (suc k))
sum_below-first zero f = omega arith
sum_below-first (suc n) f = omega (arith, sum_below-first n f)

-- the terms before m, and the n after it
pub sum_below-add : (m n : ℕ) (f : ℕ → ℕ) → sum_below (m + n) f ≡ sum_below m f + sum_below n (λ k. f (m + k))
sum_below-add m zero f = rw add-zero (omega arith)
sum_below-add m (suc n) f = rw add-suc (omega (arith, sum_below-add m n f))

pub sum_below-plus : (n : ℕ) (f g : ℕ → ℕ) → sum_below n (λ k. f k + g k) ≡ sum_below n f + sum_below n g
sum_below-plus zero f g = refl
sum_below-plus (suc n) f g = omega (arith, sum_below-plus n f g)

-- a sum of products whose second factors have a limit
pub sum_below-product-le : (n limit : ℕ) (f g : ℕ → ℕ) → ((k : ℕ) → k < n → g k ≤ limit) → sum_below n (λ k. f k * g k) ≤ sum_below n f * limit
sum_below-product-le zero limit f g low = omega arith
sum_below-product-le (suc n) limit f g low =
    omega (arith, sum_below-product-le n limit f g (λ k below. low k (omega arith)), mul-le-mul_left (f n) (low n (omega arith)))

-- a list's sum, by places
pub sum_below-list : (xs : List ℕ) → sum_below (length xs) (λ k. get_or xs k 0) ≡ sum xs
sum_below-list [] = refl
sum_below-list (x ∷ xs) =
    omega (arith, sum_below-first (length xs) (λ k. get_or (x ∷ xs) k 0), sum_below-list xs, sum_by-cons (λ y. y) x xs)

pub sum_below-list-le : (xs : List ℕ) (n : ℕ) → sum_below n (λ k. get_or xs k 0) ≤ sum xs
sum_below-list-le [] n = omega (arith, sum_below-zero n (λ k. get_or [] k 0) (λ k below. refl))
sum_below-list-le (x ∷ xs) zero = omega arith
sum_below-list-le (x ∷ xs) (suc n) =
    omega (arith, sum_below-first n (λ k. get_or (x ∷ xs) k 0), sum_below-list-le xs n, sum_by-cons (λ y. y) x xs)
