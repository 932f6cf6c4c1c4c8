use Rattle.sota_quantile.proofs.Known.{asked-bounds}
use Rattle.sota_quantile.proofs.planned.plan.Goals as goal

pub returns-clause-bounds : goal.returns-clause-bounds
returns-clause-bounds g c =
    asked-bounds c.in_ok-region.region c.in_ok-fill.field-0 c.args.network.now c.args.origin c.args.dest c.args.budget c.in_ok-region.ensures.made.asked c.in_ok-fill.ensures.bounds
