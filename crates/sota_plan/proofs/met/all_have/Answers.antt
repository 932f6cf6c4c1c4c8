use Rattle.std.proofs.Common.{rules, ◌≡◌, true, sym, ◌∙◌}
use Rattle.sota_plan.specs.Met.{has_all}
use Rattle.sota_plan.proofs.Meeting.{each-more}
use Rattle.sota_plan.proofs.met.all_have.Goals as goal

pub loop-index-preserved : goal.loop-index-preserved
loop-index-preserved c =
    let here : c.has_all.result ≡ true = search rules in
    each-more (has_all c.args.tables.now c.args.region.now) c.loop-index.index c.loop-index.invariant (sym c.has_all.ensures ∙ here)
