use Rattle.std.proofs.Common.{◌/◌}
use Rattle.sota_plan.proofs.tests.halve.Goals as goal

pub returns-then-nodes-gt0 : goal.returns-then-nodes-gt0
returns-then-nodes-gt0 c =
    c.tables_stay_kept.ensures.cut c.args.tables.now c.cut_to.new.self c.args.network.now 1 (c.front-front.result / 2) c.cut_to.ensures.others c.cut_to.ensures.entries c.requires
