-- The pairs up to the first place, and the few that come up to the last.
use Rattle.std.proofs.Common.{ℕ, ◌≡◌, ◌+◌, ◌*◌, ◌^◌, ◌<◌, ◌≤◌, length, slice_index, subst, ap, ◌∙◌, arith, List}
use Rattle.std.proofs.Math.ListN.{set}
use Rattle.std.proofs.lemmas.List.{get_or-set_other}
use Rattle.std.proofs.lemmas.Grind.{common_steps}
use Rattle.sota_network.specs.Grid.{weighed}
use Rattle.sota_block.specs.Pairs.{pairs_sum}
use Rattle.sota_units.specs.Rounding.{ONE, SCALE_LIMIT}
use Rattle.sota_hist.specs.Time.{IsTime, total, within}
use Rattle.sota_sums.proofs.Tiles.{total-within, within-all, within-least, within-length, IsFilled-next, edge-few, edge-sum, no-edge}
use Rattle.sota_sums.proofs.sums.tile_sums.Goals as goal

pub pair_sums-requires-clause-few : goal.pair_sums-requires-clause-few
pair_sums-requires-clause-few c =
    let less : total (within c.args.at c.args.time.now) ≤ total c.args.time.now = total-within c.args.at c.args.time.now in
    let both : total (within c.args.at c.args.time.now) ≤ SCALE_LIMIT = omega (arith, (subst (λ (ps : List (ℕ × ℕ)). total ps ≤ SCALE_LIMIT) c.pairs-pairs.ensures.value c.pairs-pairs.ensures.within)) in
    rw c.pairs_within-front.ensures both

pub pair_sums-requires-clause-before : goal.pair_sums-requires-clause-before
pair_sums-requires-clause-before c = rw c.pairs_within-front.ensures (within-all c.args.at c.args.time.now)

pub pair_sums-requires-clause-within : goal.pair_sums-requires-clause-within
pair_sums-requires-clause-within c =
    let valid = c.pairs-pairs.ensures.valid in
    let least = within-least c.args.at c.args.time.now (rw c.pairs-pairs.ensures.value at valid) in
    rw c.pairs_within-front.ensures (λ k d h. omega (arith, least k d h, c.requires.reach))

pub split_at-requires : goal.split_at-requires
split_at-requires c =
    let less : length (within c.args.at c.args.time.now) ≤ length (within (c.args.at + 7) c.args.time.now) = within-length c.args.at (c.args.at + 7) c.args.time.now (omega arith) in
    rw (c.pairs_within-front.ensures, c.pairs_within-late.ensures) less

pub sum_at-requires : goal.sum_at-requires
sum_at-requires c = record {
  few = edge-few c.args.at SCALE_LIMIT c.args.time.now c.pairs_within-front.result.now c.pairs_within-late.result.now c.split_at.result.1.now (subst (λ (ps : List (ℕ × ℕ)). total ps ≤ SCALE_LIMIT) c.pairs-pairs.ensures.value c.pairs-pairs.ensures.within) c.pairs_within-front.ensures c.pairs_within-late.ensures c.split_at.ensures.back;
}

pub overflow_add-into : goal.overflow_add-into
overflow_add-into c =
    let few : total c.split_at.result.1.now ≤ SCALE_LIMIT =
    edge-few c.args.at SCALE_LIMIT c.args.time.now c.pairs_within-front.result.now c.pairs_within-late.result.now c.split_at.result.1.now (subst (λ (ps : List (ℕ × ℕ)). total ps ≤ SCALE_LIMIT) c.pairs-pairs.ensures.value c.pairs-pairs.ensures.within) c.pairs_within-front.ensures c.pairs_within-late.ensures c.split_at.ensures.back in
    let less : c.sum_at.result ≤ total c.split_at.result.1.now * ONE = c.sum_at.ensures.within in
    let small : slice_index c.loop-j.into c.loop-j.j < 2 ^ 100 = c.loop-j.invariant.small c.loop-j.j (omega arith) c.loop-j-test.true in
    omega arith

pub loop-j-preserved : goal.loop-j-preserved
loop-j-preserved c =
    let at : ℕ = c.args.at in
    let row : List ℕ = c.args.row.now in
    let time : List (ℕ × ℕ) = c.args.time.now in
    let j : ℕ = c.loop-j.j in
    let was : ℕ = slice_index c.loop-j.into j in
    let valid : IsTime time = subst IsTime c.pairs-pairs.ensures.value c.pairs-pairs.ensures.valid in
    let left : was ≡ pairs_sum row (at + j) (within at time) = c.loop-j.invariant.filled.left j (omega arith) c.loop-j-test.true in
    let sum : was + c.sum_at.result ≡ weighed (λ u. slice_index row u) (at + j) time =
    edge-sum row at j was c.sum_at.result time c.pairs_within-front.result.now c.pairs_within-late.result.now c.split_at.result.1.now valid c.loop-j-test.true c.pairs_within-front.ensures c.pairs_within-late.ensures c.split_at.ensures.back left c.sum_at.ensures.value in
    record {
      filled = IsFilled-next (λ x. weighed (λ u. slice_index row u) (at + x) time) (λ x. pairs_sum row (at + x) (within at time)) 8 j (was + c.sum_at.result) c.loop-j.into c.loop-j-test.true sum c.loop-j.invariant.filled;
      small = λ x up less.
          let off : x ≡ j → ⊥ = λ e. omega arith in
          let other : slice_index (set c.loop-j.into j (was + c.sum_at.result)) x ≡ slice_index c.loop-j.into x = get_or-set_other c.loop-j.into j x (was + c.sum_at.result) 0 off in
          omega (arith, c.loop-j.invariant.small x (omega arith) less);
    }

pub returns-after-loop-j : goal.returns-after-loop-j
returns-after-loop-j c = λ j h. c.loop-j.invariant.filled.done j (omega arith)

pub returns-else-not-is_empty : goal.returns-else-not-is_empty
returns-else-not-is_empty c = λ j h.
    let time : List (ℕ × ℕ) = c.args.time.now in
    let valid : IsTime time = subst IsTime c.pairs-pairs.ensures.value c.pairs-pairs.ensures.valid in
    let none : length c.split_at.result.1.now ≡ 0 = grind (arith, common_steps) in
    let front : slice_index c.pair_sums.new.into j ≡ pairs_sum c.args.row.now (c.args.at + j) (within c.args.at time) =
    c.pair_sums.ensures.sums j h ∙ ap (pairs_sum c.args.row.now (c.args.at + j)) c.pairs_within-front.ensures in
    no-edge c.args.row.now c.args.at j (slice_index c.pair_sums.new.into j) time c.pairs_within-front.result.now c.pairs_within-late.result.now c.split_at.result.1.now valid h c.pairs_within-front.ensures c.pairs_within-late.ensures c.split_at.ensures.back none front

-- at the start each place has the sum of the front
pub loop-j-init : goal.loop-j-init
loop-j-init c = record {
  filled = record {
    room = omega arith;
    done = λ x h. absurd (omega arith);
    left = λ x up less. c.pair_sums.ensures.sums x less ∙ ap (pairs_sum c.args.row.now (c.args.at + x)) c.pairs_within-front.ensures;
  };
  small = λ x up less. c.pair_sums.ensures.small x less;
}
