-- Counts that stop at their last value, 2^64 - 1. A count that stands there is taken to have risen,
-- since no program can tell.
use Rattle.std.specs.Prelude.{ℕ, ◌+◌, ◌-◌, ◌^◌, ◌≤◌, min}

-- so much more, or the last value
abbrev pub raised_by : ℕ → ℕ → ℕ
raised_by n count = min (count + n) (2 ^ 64 - 1)

-- the count rose by at least so much
abbrev pub RoseBy : ℕ → ℕ → ℕ → Type 0
RoseBy n before now = raised_by n before ≤ now

abbrev pub Rose : ℕ → ℕ → Type 0
Rose before now = RoseBy 1 before now

-- how often something happened that happened once more
abbrev pub counted : ℕ → ℕ
counted count = raised_by 1 count
