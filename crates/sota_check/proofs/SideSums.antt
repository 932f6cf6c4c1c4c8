-- Sums over either side of a bracket table.
use Rattle.std.proofs.Common.{ℕ, ◌≡◌, ◌-◌, ◌*◌, Bool, if◌then◌else◌, List, Option, Some, ap, ◌∙◌, option_and_then}
use Rattle.std.specs.List.{sum_by}
use Rattle.std.specs.Option.{option_map, option_map_or}
use Rattle.std.proofs.lemmas.Bool.{eq-eqb, ne_eqb}
use Rattle.sota_units.specs.Rounding.{ONE}
use Rattle.sota_hist.specs.Time.{within}
use Rattle.sota_network.specs.Grid.{weighed}
use Rattle.sota_polfile.specs.Table.{entry_from}
use Rattle.sota_polfile.specs.Bracket.{Bracket, bracket_row_of}
use Rattle.sota_polfile.specs.declared.bracket_row.BracketRow.{BracketRow}
use Rattle.sota_check.specs.Certified.{value_or_zero}
use Rattle.sota_check.specs.Bracketed.{lower_entry, lower_entries, row_upper}
use Rattle.sota_check.specs.Sides.{row_side, side_of}
use Rattle.sota_check.specs.declared.bracket_sums.Side.{Side}
use Rattle.sota_check.specs.declared.bracket_sums.Side.TheVariants.{Lower, Upper}

module _ (table : Bracket) (j t : ℕ) (pairs : List (ℕ × ℕ)) where
  -- by whether the node is the destination, and by its row
  lower-test : Bool → ℕ
  lower-test b = sum_by (λ (p : ℕ × ℕ). p.1 * (if b then ONE else value_or_zero (lower_entries table j (t - p.0)))) (within t pairs)

  lower-row : Option BracketRow → ℕ
  lower-row o = sum_by (λ (p : ℕ × ℕ). p.1 * value_or_zero (option_map lower_entry (option_and_then (λ r. entry_from r.first r.entries (t - p.0)) o))) (within t pairs)

  upper-test : Bool → ℕ
  upper-test b = sum_by (λ (p : ℕ × ℕ). p.1 * (if b then ONE else option_map_or (λ r. row_upper r (t - p.0)) (bracket_row_of table j) ONE)) (within t pairs)

  upper-row : Option BracketRow → ℕ
  upper-row o = sum_by (λ (p : ℕ × ℕ). p.1 * option_map_or (λ r. row_upper r (t - p.0)) o ONE) (within t pairs)

  pub side-dest : (side : Side) → j ≡ table.head.dest → weighed (side_of side table j) t pairs ≡ sum_by (λ (p : ℕ × ℕ). p.1 * ONE) (within t pairs)
  unfolding lower-test upper-test
  side-dest Lower at = ap lower-test (eq-eqb j table.head.dest at)
  side-dest Upper at = ap upper-test (eq-eqb j table.head.dest at)

  pub side-row : (side : Side) → (j ≡ table.head.dest → ⊥) → (row : BracketRow) → bracket_row_of table j ≡ Some row → weighed (side_of side table j) t pairs ≡ sum_by (λ (p : ℕ × ℕ). p.1 * row_side side row (t - p.0)) (within t pairs)
  unfolding lower-test lower-row upper-test upper-row
  side-row Lower off row is = ap lower-test (ne_eqb j table.head.dest off) ∙ ap lower-row is
  side-row Upper off row is = ap upper-test (ne_eqb j table.head.dest off) ∙ ap upper-row is
