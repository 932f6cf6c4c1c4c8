-- Each pair within the budget adds its product to the sum. It reads an earlier row, since its tick
-- is at least 1.
use Rattle.std.proofs.Common.{ℕ, ◌≡◌, ◌-◌, ◌*◌, ◌<◌, ◌≤◌, length, arith, ap, sym, ◌∙◌}
use Rattle.sota_network.specs.GridView.{in_table}
use Rattle.sota_network.proofs.Sums.{weighed-more_in, weighed-more_out, total-more}
use Rattle.sota_network.proofs.Tables.{tick-positive, place-below, table-read}
use Rattle.sota_network.proofs.plain.arc_sum.Goals as goal
use Rattle.sota_network.proofs.plain.arc_sum.Goals.{then-get-budget, else-get-budget}

pub bounds-values-cell : goal.bounds-values-cell
bounds-values-cell c =
    let positive : 1 ≤ c.loop-tick-item.result.0 =
    tick-positive c.pairs-tick-items.result.now c.loop-tick.tick-index c.loop-tick-item.result c.pairs-tick-items.ensures.valid c.loop-tick-test.true c.loop-tick-item.is in
    let earlier : c.args.budget - c.get-then-get-budget.result < c.args.budget = omega arith in
    let below = place-below c.args.nodes c.args.arc.now.head (c.args.budget - c.get-then-get-budget.result) c.args.budget c.requires.head.0 c.requires.head.1 earlier in
    rw (c.cell.ensures, c.requires.full) below

pub loop-tick-preserved : goal.loop-tick-preserved
loop-tick-preserved c =
    let v : ℕ → ℕ = in_table c.args.values.now c.args.nodes c.args.arc.now.head in
    let t : ℕ = c.args.budget in
    let p : ℕ × ℕ = c.loop-tick-item.result in
    let mass = total-more c.pairs-tick-items.result.now c.loop-tick.tick-index p c.loop-tick-test.true c.loop-tick-item.is in
    elim c.if-get-budget.branch [
      | then-get-budget w ↦
          let more = weighed-more_in v t c.pairs-tick-items.result.now c.loop-tick.tick-index p c.loop-tick-test.true c.loop-tick-item.is (omega arith) in
          let positive : 1 ≤ p.0 = tick-positive c.pairs-tick-items.result.now c.loop-tick.tick-index p c.pairs-tick-items.ensures.valid c.loop-tick-test.true c.loop-tick-item.is in
          let earlier : t - w.get-then-get-budget.result < t = omega arith in
          let below = place-below c.args.nodes c.args.arc.now.head (t - w.get-then-get-budget.result) t c.requires.head.0 c.requires.head.1 earlier in
          let within : w.cell.result < length c.args.values.now = rw (w.cell.ensures, c.requires.full) below in
          let read = table-read c.args.values.now c.args.nodes c.args.arc.now.head (t - w.get-then-get-budget.result) w.cell.result w.index-values-cell.result w.index-values-cell.is w.cell.ensures within in
          let left : t - w.get-then-get-budget.result ≡ t - p.0 = ap (λ (s : ℕ). t - s) w.get-then-get-budget.ensures in
          let product : w.times.result ≡ p.1 * v (t - p.0) = w.times.ensures.value ∙ ap (λ (n : ℕ). p.1 * n) (read ∙ ap v left) in
          record { value = omega arith; within = omega arith }
      | else-get-budget w ↦
          let more = weighed-more_out v t c.pairs-tick-items.result.now c.loop-tick.tick-index p c.loop-tick-test.true c.loop-tick-item.is (omega arith) in
          record { value = w.sum-is ∙ c.loop-tick.invariant.value ∙ sym more; within = omega arith }
    ]
