-- Travel times and the pairs that they are made of.
use Rattle.std.specs.Prelude.{ℕ, ◌≡◌, ◌≤◌, ◌==◌, List}
use Rattle.std.specs.List.{All, count_by, sum_by}
use Rattle.sota_hist.specs.Time.{IsTime}
use Rattle.sota_hist.specs.Build.{rising}

-- pairs of positive masses at positive ticks, none of which stands twice, make a time
abbrev pub RisingIsTime : Type 0
RisingIsTime =
    (pairs : List (ℕ × ℕ)) → All (λ p. (1 ≤ p.0) × (1 ≤ p.1)) pairs
    → ((tick : ℕ) → count_by (λ p. p.0 == tick) pairs ≤ 1) → IsTime (rising pairs)

-- a time stands by rising ticks already
abbrev pub TimeIsRising : Type 0
TimeIsRising = (time : List (ℕ × ℕ)) → IsTime time → rising time ≡ time

-- the order of pairs makes no difference to a sum over them
abbrev pub RisingSums : Type 0
RisingSums =
    (weight : ℕ × ℕ → ℕ) (pairs : List (ℕ × ℕ)) → sum_by weight (rising pairs) ≡ sum_by weight pairs

-- two times that agree in each sum over their pairs are one: they have the same pairs, and a time
-- has but one order
abbrev pub SumsDecide : Type 0
SumsDecide =
    (one other : List (ℕ × ℕ)) → IsTime one → IsTime other
    → ((weight : ℕ × ℕ → ℕ) → sum_by weight one ≡ sum_by weight other) → one ≡ other
