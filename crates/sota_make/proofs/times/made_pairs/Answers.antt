use Rattle.std.proofs.Common.{◌≡◌, ◌+◌, ◌-◌, sym, ◌∙◌, arith}
use Rattle.sota_make.proofs.Pairs.{pairs-step, pairs-last}
use Rattle.sota_make.proofs.times.made_pairs.Goals as goal

pub loop-index-preserved : goal.loop-index-preserved
loop-index-preserved c =
    let step = pairs-step c.loop-index.pairs.items (c.args.span - c.loop-index.index) (c.args.least + c.loop-index.index) c.loop-index.rest c.loop-index.words c.draw_below-extra.result c.draw_below-extra.new.self (omega arith) c.draw_below-extra.ensures.value in
    let less : c.args.span - (c.loop-index.index + 1) ≡ c.args.span - c.loop-index.index - 1 = omega arith in
    let next : c.args.least + (c.loop-index.index + 1) ≡ c.args.least + c.loop-index.index + 1 = omega arith in
    record {
      rest = omega (arith, c.loop-index.invariant.rest);
      value = rw (less, next, c.in_ok-push.ensures.items) (sym step ∙ c.loop-index.invariant.value);
    }

pub returns : goal.returns
returns c =
    let one : c.args.span - c.loop-index.index ≡ 1 = omega arith in
    let tick : c.args.least + c.args.span - 1 ≡ c.args.least + c.loop-index.index = omega arith in
    let last = pairs-last c.loop-index.pairs.items (c.args.span - c.loop-index.index) (c.args.least + c.loop-index.index) c.loop-index.rest c.loop-index.words one in
    rw (c.in_ok-push-2.ensures.items, tick) (sym last ∙ c.loop-index.invariant.value)
