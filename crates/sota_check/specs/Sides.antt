-- The two sides of a bracket table, so that the sums over either are made alike.
use Rattle.std.specs.Prelude.{ℕ}
use Rattle.std.specs.Option.{option_map}
use Rattle.sota_polfile.specs.Table.{entry_from}
use Rattle.sota_polfile.specs.Bracket.{Bracket}
use Rattle.sota_polfile.specs.declared.bracket_row.BracketRow.{BracketRow}
use Rattle.sota_check.specs.Certified.{value_or_zero}
use Rattle.sota_check.specs.Bracketed.{lower_entry, lower, upper, row_upper}
use Rattle.sota_check.specs.declared.bracket_sums.Side.{Side}
use Rattle.sota_check.specs.declared.bracket_sums.Side.TheVariants.{Lower, Upper}

-- the lower value of a row at a budget
abbrev pub row_lower : BracketRow → ℕ → ℕ
row_lower row t = value_or_zero (option_map lower_entry (entry_from row.first row.entries t))

abbrev pub row_side : Side → BracketRow → ℕ → ℕ
row_side Lower row t = row_lower row t
row_side Upper row t = row_upper row t

abbrev pub side_of : Side → Bracket → ℕ → ℕ → ℕ
side_of Lower table i t = lower table i t
side_of Upper table i t = upper table i t
