-- How a least time takes the room of one number: it is one more, and 0 where there is none.
use Rattle.std.specs.Prelude.{ℕ, zero, suc, ◌≡◌, Option, None, Some, refl}

-- the time to which a number belongs
abbrev pub time_below : ℕ → Option ℕ
time_below zero = None
time_below (suc n) = Some n

-- the number that belongs to a time
abbrev pub number_above : Option ℕ → ℕ
number_above None = zero
number_above (Some n) = suc n

pub above-below : (n : ℕ) → number_above (time_below n) ≡ n
above-below zero = refl
above-below (suc n) = refl
