use Rattle.std.proofs.Common.{ℕ, ◌≡◌, ◌-◌, ◌*◌, ap, refl, sym, ◌∙◌, arith}
use Rattle.sota_check.proofs.Worths.{sum-more, room}
use Rattle.sota_check.proofs.sums.values_sum.Goals as goal

pub overflow_add-sum : goal.overflow_add-sum
overflow_add-sum g c =
    let p : ℕ × ℕ = c.loop-tick-item.result in
    let fits = room c.args.pairs.now c.loop-tick.tick-index p c.loop-tick.sum c.value_at.result c.loop-tick-test.true c.loop-tick-item.is c.requires (omega arith) c.loop-tick.invariant.within in
    let product : c.from.result * c.from-in-loop-tick.result ≡ p.1 * c.value_at.result = rw (c.from.ensures, c.get-in-loop-tick.ensures, c.from-in-loop-tick.ensures) refl in
    omega (arith, product, fits.1)

pub loop-tick-preserved : goal.loop-tick-preserved
loop-tick-preserved g c =
    let p : ℕ × ℕ = c.loop-tick-item.result in
    let fits = room c.args.pairs.now c.loop-tick.tick-index p c.loop-tick.sum c.value_at.result c.loop-tick-test.true c.loop-tick-item.is c.requires (omega arith) c.loop-tick.invariant.within in
    let more = sum-more (λ (q : ℕ × ℕ). q.1 * g.V.Values.value c.args.values.now (c.args.budget - q.0)) c.args.pairs.now c.loop-tick.tick-index p c.loop-tick-test.true c.loop-tick-item.is in
    let product : c.from.result * c.from-in-loop-tick.result ≡ p.1 * c.value_at.result = rw (c.from.ensures, c.get-in-loop-tick.ensures, c.from-in-loop-tick.ensures) refl in
    let read : c.value_at.result ≡ g.V.Values.value c.args.values.now (c.args.budget - p.0) =
    c.value_at.ensures ∙ ap (g.V.Values.value c.args.values.now) (c.saturating_sub-left.ensures ∙ ap (λ (s : ℕ). c.args.budget - s) c.get.ensures) in
    record {
      value = rw (product, read, c.loop-tick.invariant.value) (sym more);
      within = rw product fits.0;
    }
