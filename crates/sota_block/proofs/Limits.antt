-- How large a coefficient can be.
use Rattle.std.proofs.Common.{◌≡◌, ℕ, suc, ◌+◌, ◌-◌, ◌*◌, ◌^◌, ◌<◌, ◌≤◌, List, length, get_or, sum, sym, ◌∙◌, ⊎_elim, arith}
use Rattle.std.specs.List.{All}
use Rattle.std.proofs.lemmas.Bool.{cases_lt}
use Rattle.std.proofs.lemmas.List.{get_or_past}
use Rattle.std.proofs.lemmas.List.Elements.{All-get_or, All-from_get_or}
use Rattle.std.proofs.lemmas.Nat.{mul-pow}
use Rattle.std.proofs.Math.Nat.{mul-le-mul_right}
use Rattle.sota_units.specs.Rounding.{SCALE_LIMIT}
use Rattle.sota_block.specs.Product.{sum_below, coefficient}
use Rattle.sota_block.proofs.Sums.{sum_below-zero, sum_below-product-le, sum_below-list-le}
use Rattle.sota_block.proofs.Convolution.{coefficient-sum}

-- a limit of each element is a limit at each place, also past the end
pub get_or-le : (limit : ℕ) (xs : List ℕ) → All (λ x. x ≤ limit) xs → (k : ℕ) → get_or xs k 0 ≤ limit
get_or-le limit xs low k =
    ⊎_elim (λ within. All-get_or (λ x. x ≤ limit) xs k 0 within low) (λ past. rw (get_or_past xs k 0 past) (omega arith)) (cases_lt k (length xs))

-- a sum of masses times values
pub weighed-le : (limit n : ℕ) (masses values : List ℕ) (place : ℕ → ℕ) → All (λ v. v ≤ limit) values
    → sum_below n (λ b. get_or masses b 0 * get_or values (place b) 0) ≤ sum masses * limit
weighed-le limit n masses values place low =
    omega (arith, sum_below-product-le n limit (λ b. get_or masses b 0) (λ b. get_or values (place b) 0) (λ k below. get_or-le limit values low (place k)), mul-le-mul_right limit (sum_below-list-le masses n))

pub coefficient-le : (limit : ℕ) (masses values : List ℕ) (k : ℕ) → All (λ v. v ≤ limit) values → coefficient masses values k ≤ sum masses * limit
coefficient-le limit masses values k low = rw coefficient-sum (weighed-le limit (suc k) masses values (λ b. k - b) low)

pub sum-le-limit : (limit : ℕ) (masses : List ℕ) → sum masses ≤ SCALE_LIMIT → sum masses * limit ≤ SCALE_LIMIT * limit
sum-le-limit limit masses few = mul-le-mul_right limit few

-- past the last product there is nothing
pub coefficient-past : (xs ys : List ℕ) (k : ℕ) → length xs + length ys ≤ suc k → coefficient xs ys k ≡ 0
coefficient-past xs ys k past =
    rw coefficient-sum (sum_below-zero (suc k) (λ b. get_or xs b 0 * get_or ys (k - b) 0) (λ b below.
    ⊎_elim (λ inside. rw (get_or_past ys (k - b) 0 (omega arith)) (omega arith)) (λ outside. rw (get_or_past xs b 0 outside) (omega arith)) (cases_lt b (length xs))))

-- what the two public products say of a list that holds the coefficients
module _ (xs ys zs : List ℕ) (same : length ys ≡ length xs) (room : length zs ≡ 2 * length xs) (are : (k : ℕ) → k < length zs → get_or zs k 0 ≡ coefficient xs ys k) where
  pub last_is_zero : get_or zs (length zs - 1) 0 ≡ 0
  last_is_zero =
      ⊎_elim (λ some. are (length zs - 1) (omega arith) ∙ coefficient-past xs ys (length zs - 1) (omega arith)) (λ none. get_or_past zs (length zs - 1) 0 (omega arith)) (cases_lt 0 (length zs))

  pub within_limit : (limit : ℕ) → SCALE_LIMIT * limit < 2 ^ 107 → sum xs ≤ SCALE_LIMIT → All (λ v. v ≤ limit) ys → All (λ c. c < 2 ^ 107) zs
  within_limit limit fits few low =
      All-from_get_or (λ c. c < 2 ^ 107) zs 0 (λ k inside.
      rw (are k inside) (omega (arith, coefficient-le limit xs ys k low, sum-le-limit limit xs few)))

-- a square of a power of two
pub square_is : (n r : ℕ) → n ≡ 2 ^ r → n * n ≡ 4 ^ r
square_is n r power = rw power (sym (mul-pow 2 2 r))
