use Rattle.std.proofs.Common.{ℕ, ◌≡◌, ◌-◌, ◌*◌, Some, length, ap, refl, sym, ◌∙◌, arith}
use Rattle.std.specs.List.{sum_by}
use Rattle.std.proofs.lemmas.Option.{slice_get_read}
use Rattle.sota_units.specs.Rounding.{ONE}
use Rattle.sota_polfile.specs.Bracket.{bracket_row_of}
use Rattle.sota_polfile.specs.declared.bracket_row.BracketRow.{BracketRow}
use Rattle.sota_polfile.specs.declared.head.PolicyHead.{PolicyHead}
use Rattle.sota_check.specs.Sides.{row_side}
use Rattle.sota_check.proofs.Worths.{within-few}
use Rattle.sota_check.proofs.Standing.{row-read}
use Rattle.sota_check.proofs.SideSums.{side-dest, side-row}
use Rattle.sota_check.proofs.bracket_sums.side_sum.Goals as goal

pub whole_sum-requires : goal.whole_sum-requires
whole_sum-requires c = rw c.within-pairs.ensures (omega (arith, within-few c.args.budget c.args.arc.now.time, c.requires.total))

pub values_sum-requires : goal.values_sum-requires
values_sum-requires c = rw c.within-pairs.ensures (omega (arith, within-few c.args.budget c.args.arc.now.time, c.requires.total))

pub returns-then-head-clause-value : goal.returns-then-head-clause-value
returns-then-head-clause-value c =
    let at : c.args.arc.now.head ≡ c.args.table.now.head.dest = sym c.get-head.ensures ∙ c.if-head.true ∙ ap (λ (h : PolicyHead). h.dest) c.head.ensures.value in
    c.whole_sum.ensures.value
    ∙ ap (sum_by (λ (p : ℕ × ℕ). p.1 * ONE)) c.within-pairs.ensures
    ∙ sym (side-dest c.args.table.now c.args.arc.now.head c.args.budget c.args.arc.now.time c.args.side at)

pub returns-clause-value : goal.returns-clause-value
returns-clause-value c =
    let table = c.args.table.now in
    let off : c.args.arc.now.head ≡ table.head.dest → ⊥ = λ same. c.if-head.false (c.get-head.ensures ∙ same ∙ sym (ap (λ (h : PolicyHead). h.dest) c.head.ensures.value)) in
    let row : BracketRow = c.index-rows-head.result in
    let long : length c.rows.result.now ≡ table.head.nodes = ap length c.rows.ensures.value ∙ c.rows.ensures.size in
    let got = slice_get_read c.rows.result.now (length c.rows.result.now) (c.get-head.result - 1) row refl (omega (arith, long, c.requires.head.0, c.requires.head.1, c.get-head.ensures)) c.index-rows-head.is in
    let there = rw (c.rows.ensures.value, c.get-head.ensures) at got in
    let is : bracket_row_of table c.args.arc.now.head ≡ Some row = row-read table c.args.arc.now.head row c.requires.head.0 there in
    c.values_sum.ensures.value
    ∙ ap (sum_by (λ (p : ℕ × ℕ). p.1 * row_side c.args.side row (c.args.budget - p.0))) c.within-pairs.ensures
    ∙ sym (side-row table c.args.arc.now.head c.args.budget c.args.arc.now.time c.args.side off row is)
