-- How many products the squares of a feed take.
use Rattle.std.proofs.Common.{◌≡◌, ℕ, zero, suc, ◌+◌, ◌-◌, ◌%◌, ◌^◌, ◌<◌, ◌≤◌, ◌⊎◌, ⊎_elim, sym, ap, ◌∙◌, arith, add-one}
use Rattle.std.proofs.lemmas.Bool.Decides.{nat_tests}
use Rattle.std.proofs.Math.Nat.{mul-mod_left, pow-suc}
use Rattle.sota_block.specs.Product.{sum_below, fold_count}
use Rattle.sota_online.specs.Squares.{square_count, square_counts, feeds_count}
use Rattle.sota_online.proofs.Squares.{Stands}
use Rattle.sota_block.proofs.Crossings.{sum_below-le}

-- a level whose block is whole, and that has masses
pub count_here : (span first k r size blocks : ℕ) → Stands first k r size blocks → size ≤ span → square_count span k r ≡ fold_count r
count_here span first k r size blocks st fits =
    let e : 2 ^ r ≡ size = sym st.size_is in
    let whole : k % 2 ^ r ≡ 0 = ap (λ (n : ℕ). k % n) e ∙ ap (λ (n : ℕ). n % size) (sym st.whole) ∙ mul-mod_left blocks size in
    let within : 2 ^ r ≤ span = omega arith in
    grind (arith, nat_tests)

level_small : (r : ℕ) → r < 2 ^ r
level_small zero = omega arith
level_small (suc r) = omega (arith, level_small r, pow-suc 2 r)

pub level_below : (span first k r size blocks : ℕ) → Stands first k r size blocks → size ≤ span → r + 1 ≤ span
level_below span first k r size blocks st fits = let e = st.size_is in omega (arith, level_small r)

pub count_more : (span first k r size blocks before now new : ℕ) → Stands first k r size blocks → size ≤ span → now ≤ before + sum_below r (λ q. square_count span k q) → new ≤ now + fold_count r
    → new ≤ before + sum_below (r + 1) (λ q. square_count span k q)
count_more span first k r size blocks before now new st fits low more = rw add-one (omega (arith, count_here span first k r size blocks st fits))

pub count_all : (span k r before now : ℕ) → r ≤ span → now ≤ before + sum_below r (λ q. square_count span k q) → now ≤ before + square_counts span k
count_all span k r before now within low = omega (arith, sum_below-le r span (λ q. square_count span k q) within)

pub counted_all : (span k r before now : ℕ) → (r ≤ span) ⊎ (now ≡ before) → now ≤ before + sum_below r (λ q. square_count span k q) → now ≤ before + square_counts span k
counted_all span k r before now some low =
    ⊎_elim (λ (within : r ≤ span). count_all span k r before now within low) (λ (none : now ≡ before). omega arith) some

-- a longer kernel may take more
count-le : (span span' k r : ℕ) → span ≤ span' → square_count span k r ≤ square_count span' k r
count-le span span' k r longer = grind (arith, nat_tests)

pub counts_rise : (span span' k : ℕ) → span ≤ span' → square_counts span k ≤ square_counts span' k
counts_rise span span' k longer =
    omega (arith, sums-le span, sum_below-le span span' (λ r. square_count span' k r) longer)
  where
    sums-le : (n : ℕ) → sum_below n (λ r. square_count span k r) ≤ sum_below n (λ r. square_count span' k r)
    sums-le zero = omega arith
    sums-le (suc n) = omega (arith, sums-le n, count-le span span' k n longer)

-- of the values that a block takes the last alone is counted
pub feeds_more : (span span' fed done n total before now new : ℕ) → 1 ≤ n → span' ≡ span → total ≡ fed + (done + n) → now ≤ before + feeds_count span fed done → new ≤ now + square_counts span' total
    → new ≤ before + feeds_count span fed (done + n)
feeds_more span span' fed done n total before now new some same all low more =
    let m : ℕ = done + (n - 1) in
    let f : ℕ → ℕ = λ i. square_counts span (fed + i + 1) in
    let next : suc m ≡ done + n = omega arith in
    let last : square_counts span' total ≡ f m = ap (λ (s : ℕ). square_counts s total) same ∙ ap (λ (k : ℕ). square_counts span k) (omega arith) in
    let all_counts : sum_below (suc m) f ≡ sum_below (done + n) f = ap (λ (k : ℕ). sum_below k f) next in
    omega (arith, sum_below-le done m f (omega arith), last, all_counts)
