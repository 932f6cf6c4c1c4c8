use Rattle.std.proofs.Common.{◌≡◌, ◌+◌, ◌-◌, sym, ◌∙◌, arith}
use Rattle.sota_make.proofs.Valid.{arcs-step, arcs-end}
use Rattle.sota_make.proofs.arcs.made_arcs.Goals as goal

pub loop-index-preserved : goal.loop-index-preserved
loop-index-preserved c =
    let step = arcs-step c.args.nodes c.args.span c.loop-index.list.items (c.args.arcs - c.loop-index.index) (c.loop-index.index + 1) c.loop-index.words c.in_ok-made_arc.field-0 c.made_arc.new.words (omega arith) c.in_ok-made_arc.ensures in
    let less : c.args.arcs - (c.loop-index.index + 1) ≡ c.args.arcs - c.loop-index.index - 1 = omega arith in
    rw (less, c.in_ok-push.ensures.items) (sym step ∙ c.loop-index.invariant)

pub returns : goal.returns
returns c =
    let none : c.args.arcs - c.loop-index.index ≡ 0 = omega arith in
    sym (arcs-end c.args.nodes c.args.span c.loop-index.list.items (c.args.arcs - c.loop-index.index) (c.loop-index.index + 1) c.loop-index.words none) ∙ c.loop-index.invariant
