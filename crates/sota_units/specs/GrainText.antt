-- The decimal text of a probability.
use Rattle.std.specs.Prelude.{ℕ, zero, suc, ◌+◌, ◌/◌, ◌%◌, List, [], ◌∷◌, ◌++◌}
use Rattle.sota_units.specs.Rounding.{ONE}

-- the last so many decimal digits of a number, leading zeros kept; 48 is the digit 0
unfoldable pub fixed : ℕ → ℕ → List ℕ
fixed zero n = []
fixed (suc places) n = fixed places (n / 10) ++ (48 + n % 10) ∷ []

-- a probability as one digit, a point (46) and 18 digits, so that each unit of 10^-18 is seen
unfoldable pub grain_spelling : ℕ → List ℕ
grain_spelling n = (48 + n / ONE) ∷ 46 ∷ fixed 18 (n % ONE)
