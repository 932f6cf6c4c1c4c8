-- Units of table values, and the two roundings.
use Rattle.std.specs.Prelude.{ℕ, ◌+◌, ◌-◌, ◌/◌}

-- probability one, in units of ten to the minus eighteenth
abbrev pub ONE : ℕ
ONE = 1000000000000000000

-- the greatest heft: two to the 107th, above each sum of masses times values that a planner makes
abbrev pub HEFT_LIMIT : ℕ
HEFT_LIMIT = 162259276829213363391578010288128

-- the greatest denominator of a network's masses
abbrev pub SCALE_LIMIT : ℕ
SCALE_LIMIT = 1000000000

-- the floor of x / q
abbrev pub floor_by : ℕ → ℕ → ℕ
floor_by q x = x / q

-- the ceiling of x / q, for a positive q
abbrev pub ceiling_by : ℕ → ℕ → ℕ
ceiling_by q x = (x + (q - 1)) / q
