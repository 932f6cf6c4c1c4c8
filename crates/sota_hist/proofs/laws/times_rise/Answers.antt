use Rattle.sota_hist.proofs.Ticks.{last_tick, rises_within}
use Rattle.sota_hist.proofs.laws.times_rise.Goals as goal

pub returns-clause-last : goal.returns-clause-last
returns-clause-last c = λ time other rises some. (last_tick time other rises some).0

pub returns-clause-within : goal.returns-clause-within
returns-clause-within c = λ time limit rises. rises_within 0 limit time rises
