use Rattle.sota_kept.specs.TableLists.{IsKept}
use Rattle.sota_tables.specs.Views.{lists_of}
use Rattle.sota_plan.proofs.tests.plan_all.Given as goal

abbrev pub invariant-loop-ask : goal.invariant-loop-ask
invariant-loop-ask g l = IsKept (lists_of l.tables) l.network
