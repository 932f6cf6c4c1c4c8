use Rattle.std.proofs.Common.{sym, subst}
use Rattle.sota_plan.specs.Runs.{RunView, IsReady}
use Rattle.sota_plan.proofs.extension.extend.Goals as goal

pub extend_all-requires : goal.extend_all-requires
extend_all-requires g c = subst (λ (x : RunView). IsReady x c.args.tables.now c.args.network.now) (sym c.run.view_is) c.requires
