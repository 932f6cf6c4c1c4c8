use Rattle.std.proofs.Common.{◌+◌, ◌-◌, List, ℕ, slice_index, length, arith, ◌∙◌, ap}
use Rattle.sota_block.proofs.Stretch.{sub_at}
use Rattle.sota_online.proofs.Worked.{known_sum}
use Rattle.sota_online.proofs.block.BlockSummerSummer.sums.Goals as goal

pub returns-clause-sums : goal.returns-clause-sums
returns-clause-sums c = λ k below.
    let s = c.self.inside in
    let place : ℕ = c.args.from + k in
    let width : ℕ = c.args.from + length c.args.into.now - c.args.from in
    let low = sub_at c.args.from width k c.deref-4.result.now (omega arith) ∙ ap (λ (xs : List ℕ). slice_index xs place) c.deref-4.ensures.value in
    let high = sub_at c.args.from width k c.deref-5.result.now (omega arith) ∙ ap (λ (xs : List ℕ). slice_index xs place) c.deref-5.ensures.value in
    let sums = known_sum s.masses.items s.skips.items c.deref-2.result.now s.first s.smallest s.values.items c.deref-3.result.now s.fed s.start (s.smallest - 1) s.low.items s.high.items place _ c.args.self.now c.self.invariant (omega arith) c.self.view_is (omega arith) (omega arith) (omega arith) c.deref-2.ensures.value c.deref-3.ensures.value in
    omega (arith, sums, low, high, c.plain_sums-2.ensures.sums k below, c.add_halves.ensures.sums k (omega arith))

pub returns-clause-hefts : goal.returns-clause-hefts
returns-clause-hefts c = λ k below. omega (arith, c.add_halves.ensures.small k (omega arith))
