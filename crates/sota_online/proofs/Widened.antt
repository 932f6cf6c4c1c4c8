-- The coefficients of a folded product.
use Rattle.std.proofs.Common.{◌≡◌, ℕ, suc, ◌-◌, ◌*◌, ◌≤◌, List, length, get_or, sum, ap, ◌∙◌, arith}
use Rattle.sota_block.specs.Product.{coefficient}
use Rattle.sota_block.specs.Meeting.{meeting}
use Rattle.sota_block.proofs.Sums.{sum_below-same, sum_below-list, sum_below-list-le}
use Rattle.sota_block.proofs.Meetings.{coefficient_meets}

-- masses with zeros after them have the same sum
pub widened_few : (wide masses : List ℕ) → ((k : ℕ) → get_or wide k 0 ≡ get_or masses k 0) → sum wide ≤ sum masses
widened_few wide masses same =
    let n = length wide in
    omega (arith, sum_below-list wide, sum_below-same n (λ k. get_or wide k 0) (λ k. get_or masses k 0) (λ k below. same k), sum_below-list-le masses n)

-- and the same products
pub folded_is : (wide masses broad values : List ℕ) (k sum : ℕ) → ((k : ℕ) → get_or wide k 0 ≡ get_or masses k 0) → broad ≡ values → sum ≡ coefficient wide broad k
    → sum ≡ meeting masses (λ a. get_or values a 0) (length values) k
unfolding coefficient
folded_is wide masses broad values k sum same is all =
    all ∙ ap (λ (ys : List ℕ). coefficient wide ys k) is
    ∙ sum_below-same (suc k) (λ b. get_or wide b 0 * get_or values (k - b) 0) (λ b. get_or masses b 0 * get_or values (k - b) 0) (λ b below. ap (λ (m : ℕ). m * get_or values (k - b) 0) (same b))
    ∙ coefficient_meets masses values k
