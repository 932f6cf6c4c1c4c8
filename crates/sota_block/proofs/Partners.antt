-- The value that a mass meets.
use Rattle.std.proofs.Common.{◌≡◌, ℕ, ◌+◌, ◌-◌, ◌<◌, ◌≤◌, ⊎_elim, arith}
use Rattle.std.proofs.lemmas.Bool.{cases_lt}
use Rattle.std.proofs.lemmas.Bool.Decides.{nat_tests}
use Rattle.sota_block.specs.Meeting.{met}

pub met-in : (f : ℕ → ℕ) (from to p b : ℕ) → from + b ≤ p → p < to + b → met f from to p b ≡ f (p - b)
met-in f from to p b low high = grind (arith, nat_tests)

pub met-early : (f : ℕ → ℕ) (from to p b : ℕ) → p < from + b → met f from to p b ≡ 0
met-early f from to p b low = grind (arith, nat_tests)

pub met-late : (f : ℕ → ℕ) (from to p b : ℕ) → to + b ≤ p → met f from to p b ≡ 0
met-late f from to p b high = grind (arith, nat_tests)

-- a fact of what a mass meets, from the three cases
pub met-cases : (P : ℕ → Type 0) (f : ℕ → ℕ) (from to p b : ℕ) → P 0 → (from + b ≤ p → p < to + b → P (f (p - b))) → P (met f from to p b)
met-cases P f from to p b none some =
    ⊎_elim (λ (early : p < from + b). rw (met-early f from to p b early) none)
    (λ (there : from + b ≤ p).
    ⊎_elim (λ (within : p < to + b). rw (met-in f from to p b there within) (some there within)) (λ (past : to + b ≤ p). rw (met-late f from to p b past) none) (cases_lt p (to + b)))
    (cases_lt p (from + b))
