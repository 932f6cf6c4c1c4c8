use Rattle.std.proofs.Common.{ℕ, ◌≡◌, ◌+◌, ◌<◌, ◌≤◌, nat_lt, if◌then◌else◌, List, Some, slice_index, refl, ◌∙◌, ap, arith}
use Rattle.std.proofs.lemmas.Bool.{lt-ltb, le-ltb}
use Rattle.sota_network.specs.Network.{Net}
use Rattle.sota_network.specs.Grid.{plain_sum}
use Rattle.sota_network.specs.declared.network.Arc.{Arc}
use Rattle.sota_period.specs.Rows.{row_value}
use Rattle.sota_network.specs.Among.{numbered_worth}
use Rattle.sota_period.proofs.bests.choose.Goals as goal
use Rattle.sota_period.proofs.bests.choose.Goals.{then-best-sums, else-best-sums}

pub loop-number-preserved : goal.loop-number-preserved
loop-number-preserved c =
    let net : Net = c.args.network.now in
    let es : List ℕ = c.leaving-number-items.result.now in
    let k : ℕ = c.loop-number.number-index in
    let e : ℕ = c.number-item.result in
    let arc : Arc = c.numbered.result.now in
    let P : Arc → ℕ = λ a. plain_sum a (row_value c.args.rows.now) c.args.budget in
    let old : ℕ = c.loop-number.best in
    let sums : List ℕ = c.head_sums.new.into in
    let sum : slice_index sums 0 ≡ P arc =
    c.head_sums.ensures.sums 0 (omega (arith, c.loop-number.invariant.sums))
    ∙ ap (λ (t : ℕ). plain_sum arc (row_value c.args.rows.now) t) (let y : c.args.budget + 0 ≡ c.args.budget = omega arith in y) in
    let has : slice_index sums 0 ≡ numbered_worth net P e = sum ∙ c.arcs_one_by_one.ensures.number net P e arc c.numbered.ensures.value in
    elim c.if-best-sums.branch [
      | then-best-sums w ↦
          let more : old < slice_index sums 0 = w.if-best-sums.true in
          let chosen : c.if-best-sums.choice ≡ (if nat_lt old (slice_index sums 0) then Some e else c.loop-number.choice) = w.choice-is ∙ (rw (lt-ltb old (slice_index sums 0) more) refl) in
          record {
            sums = c.head_sums.ensures.room ∙ c.loop-number.invariant.sums;
            best = c.arcs_one_by_one.ensures.best_step (numbered_worth net P) es k e old (slice_index sums 0) c.if-best-sums.best c.loop-number-test.true c.number-item.is c.loop-number.invariant.best has (w.best-is ∙ omega arith);
            choice = c.arcs_one_by_one.ensures.choice_step (numbered_worth net P) es k e old (slice_index sums 0) c.loop-number.choice c.if-best-sums.choice c.loop-number-test.true c.number-item.is c.loop-number.invariant.best has c.loop-number.invariant.choice chosen;
          }
      | else-best-sums w ↦
          let most : slice_index sums 0 ≤ old = w.if-best-sums.false in
          let chosen : c.if-best-sums.choice ≡ (if nat_lt old (slice_index sums 0) then Some e else c.loop-number.choice) = w.choice-is ∙ (rw (le-ltb old (slice_index sums 0) most) refl) in
          record {
            sums = c.head_sums.ensures.room ∙ c.loop-number.invariant.sums;
            best = c.arcs_one_by_one.ensures.best_step (numbered_worth net P) es k e old (slice_index sums 0) c.if-best-sums.best c.loop-number-test.true c.number-item.is c.loop-number.invariant.best has (w.best-is ∙ omega arith);
            choice = c.arcs_one_by_one.ensures.choice_step (numbered_worth net P) es k e old (slice_index sums 0) c.loop-number.choice c.if-best-sums.choice c.loop-number-test.true c.number-item.is c.loop-number.invariant.best has c.loop-number.invariant.choice chosen;
          }
    ]

pub returns : goal.returns
returns c =
    c.loop-number.invariant.choice
    ∙ c.arcs_one_by_one.ensures.choice_end c.args.network.now (λ a. plain_sum a (row_value c.args.rows.now) c.args.budget) c.args.node c.leaving-number-items.result.now c.loop-number.number-index c.leaving-number-items.ensures.value c.loop-number-test.false
