-- What the two bounds of a probability round a sum to.
use Rattle.std.specs.Prelude.{ℕ}
use Rattle.sota_units.specs.Rounding.{floor_by, ceiling_by}
use Rattle.sota_sums.specs.declared.bound.Bound.{Bound}
use Rattle.sota_sums.specs.declared.bound.Bound.TheVariants.{Lower, Upper}

-- outwards: the lower bound down, the upper one up
abbrev pub rounded_in : Bound → ℕ → ℕ → ℕ
rounded_in Lower scale sum = floor_by scale sum
rounded_in Upper scale sum = ceiling_by scale sum
