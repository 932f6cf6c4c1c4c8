-- Products of blocks, seen as products of polynomials, and how many multiplications they take.
use Rattle.std.specs.Prelude.{◌≡◌, ℕ, zero, suc, ◌+◌, ◌-◌, ◌*◌, ◌^◌, ◌≤◌, List, slice_index, nat_le}
use Rattle.std.specs.Prelude.{if◌then◌else◌}

-- f 0 + f 1 + .. + f (n - 1)
abbrev pub sum_below : ℕ → (ℕ → ℕ) → ℕ
sum_below zero f = 0
sum_below (suc n) f = sum_below n f + f n

-- Coefficient k of the product of two polynomials that are given by their coefficients: the sum of
-- kernel[b] * values[a] over all a and b with a + b = k. A place past the end of a list counts as 0
unfoldable pub coefficient : List ℕ → List ℕ → ℕ → ℕ
coefficient kernel values k =
    sum_below (suc k) (λ b. slice_index kernel b * slice_index values (k - b))

-- the length of a block is a power of two, at most 65,536
abbrev pub IsBlockLength : ℕ → Type 0
IsBlockLength length = (r : ℕ) × (r ≤ 16) × (length ≡ 2 ^ r)

-- the greatest value of a block that was folded: at most 16 times, and each time two values make
-- one
abbrev pub FOLDED_LIMIT : ℕ
FOLDED_LIMIT = 65536000000000000000000

-- How many multiplications a folded product of blocks of length 2 ^ r takes. Blocks of length 32
-- and less are multiplied plainly, and a longer product is made of three products of half its
-- length
abbrev pub fold_count : ℕ → ℕ
fold_count zero = 1
fold_count (suc r) = if nat_le (suc r) 5 then 4 ^ suc r else 3 * fold_count r
