-- A list that is filled from its front by what a function of the place says.
use Rattle.std.proofs.Common.{◌≡◌, ◌≢◌, ℕ, ◌+◌, ◌<◌, List, length, get_or, set, arith, below_more, get_or-set_same, get_or-set_other}

pub filled_more : (f : ℕ → ℕ) (xs : List ℕ) (i x : ℕ) → i < length xs → x ≡ f i → ((j : ℕ) → j < i → get_or xs j 0 ≡ f j) → (j : ℕ) → j < i + 1 → get_or (set xs i x) j 0 ≡ f j
filled_more f xs i x inside this before =
    below_more (λ j. get_or (set xs i x) j 0 ≡ f j) i (λ j below.
    let other : j ≢ i = omega arith in
    rw get_or-set_other (before j below)) (rw get_or-set_same this)
