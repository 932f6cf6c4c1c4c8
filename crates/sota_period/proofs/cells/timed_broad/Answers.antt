use Rattle.std.proofs.Common.{ℕ, ◌+◌, List, take, sym, ◌∙◌, ap, arith}
use Rattle.std.specs.List.{sum_by}
use Rattle.std.proofs.lemmas.List.Sums.{sum_by_more}
use Rattle.sota_network.specs.Network.{Net}
use Rattle.sota_network.specs.Region.{broad_at}
use Rattle.sota_period.proofs.cells.timed_broad.Goals as goal

pub loop-period-preserved : goal.loop-period-preserved
loop-period-preserved c =
    let budget : ℕ = c.args.budget in
    let periods : List (ℕ × Net) = c.args.periods.now in
    let k : ℕ = c.loop-period.period-index in
    let item : ℕ × Net = c.period-item.result in
    let cells : ℕ × Net → ℕ = λ p. sum_by (broad_at budget (budget + 1)) p.1.arcs in
    record {
      value = ap (λ (n : ℕ). n + c.broad_in-cells.result) c.loop-period.invariant.value
          ∙ ap (λ (n : ℕ). sum_by cells (take k periods) + n) (c.broad_in-cells.ensures.value ∙ ap cells c.period-item.is)
          ∙ sym (sum_by_more cells periods k item c.loop-period-test.true);
      within = omega (arith, c.loop-period.invariant.within, c.broad_in-cells.ensures.within);
    }
