use Rattle.std.proofs.Common.{◌≡◌, ℕ, ◌+◌, ◌-◌, ◌≤◌, slice_index, ap, ◌∙◌, arith, rules}
use Rattle.std.proofs.lemmas.List.Elements.{All-get_or}
use Rattle.sota_block.proofs.PairSums.{Holds-more}
use Rattle.sota_block.proofs.pairs.pair_sums.Goals as goal

pub loop-tick-preserved : goal.loop-tick-preserved
loop-tick-preserved c = λ j below.
    let xs = c.args.pairs.now in
    let vs = c.args.row.now in
    let k = c.loop-tick.tick-index in
    let p : ℕ × ℕ = c.loop-tick-item.result in
    let v = slice_index c.eight-values.result j in
    let before : p.0 ≤ c.args.at = search (rules, All-get_or) in
    let tick : c.get.result ≡ p.0 = c.get.ensures in
    let place : c.args.at - c.get.result + j ≡ c.args.at + j - p.0 = omega arith in
    let value : v ≡ slice_index vs (c.args.at + j - p.0) = c.eight-values.ensures.values j below ∙ ap (λ (n : ℕ). slice_index vs n) place in
    let small = c.eight-values.ensures.small j below in
    let more = Holds-more vs (c.args.at + j) xs k p p (slice_index c.loop-tick.low j) (slice_index c.loop-tick.high j) v c.loop-tick-test.true c.loop-tick-item.is value (omega arith) (c.loop-tick.invariant j below) in
    let mass : c.from-mass.result ≡ p.1 = c.from-mass.ensures ∙ c.get-in-loop-tick.ensures in
    rw (c.add_lows-low.ensures j below, c.add_highs-high.ensures j below, mass) more
