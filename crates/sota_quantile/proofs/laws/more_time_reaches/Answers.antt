use Rattle.sota_quantile.proofs.Longer.{reached-later}
use Rattle.sota_quantile.proofs.laws.more_time_reaches.Goals as goal

pub returns : goal.returns
returns c = λ net dest i least t u later reached. reached-later c.sums_and_scores.ensures.scores net dest i least t u later reached
