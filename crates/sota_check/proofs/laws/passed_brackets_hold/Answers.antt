use Rattle.sota_check.proofs.BracketJudged.{passed-holds, holds-passed}
use Rattle.sota_check.proofs.laws.passed_brackets_hold.Goals as goal

pub returns-clause-holds : goal.returns-clause-holds
returns-clause-holds c = λ net table none. passed-holds net table none

pub returns-clause-passes : goal.returns-clause-passes
returns-clause-passes c = λ net table holds. holds-passed net table holds
