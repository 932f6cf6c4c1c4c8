use Rattle.std.proofs.Common.{ℕ, ◌-◌, ◌≤◌, slice_index, subst, sym, ap, ◌∙◌, arith}
use Rattle.sota_hist.specs.Time.{IsTime}
use Rattle.sota_network.specs.Grid.{weighed}
use Rattle.sota_sums.proofs.Tiles.{sum-below, sum-above}
use Rattle.sota_sums.proofs.sums.budget_sum.Goals as goal

pub returns-then-budget-base : goal.returns-then-budget-base
returns-then-budget-base c =
    let valid : IsTime c.args.time.now = subst IsTime c.pairs-pairs.ensures.value c.pairs-pairs.ensures.valid in
    sym (sum-below c.args.row.now c.args.base c.args.budget 0 c.args.time.now valid (omega arith))

pub returns : goal.returns
returns c =
    let up : c.args.base ≤ c.args.budget = omega arith in
    let v : ℕ → ℕ = λ u. slice_index c.args.row.now u in
    c.sum_at.ensures.value ∙ ap (weighed v (c.args.budget - c.args.base)) c.pairs-pairs.ensures.value ∙ sym (sum-above c.args.row.now c.args.base c.args.budget c.args.time.now up)
