-- Rows of values from a base on.
use Rattle.std.specs.Prelude.{ℕ, ◌-◌, nat_lt, List, slice_index, if◌then◌else◌}

-- the value at budget t of a row from a base on: 0 below the base, and past the row's end
abbrev pub row_at : List ℕ → ℕ → ℕ → ℕ
row_at row base t = if nat_lt t base then 0 else slice_index row (t - base)
