use Rattle.sota_make.proofs.Pairs.{pairs-rise, pairs-count, pairs-total}
use Rattle.sota_make.proofs.laws.pairs_make_times.Goals as goal

pub returns-clause-time : goal.returns-clause-time
returns-clause-time c = λ span tick rest words above. pairs-rise span 0 tick rest words above

pub returns-clause-total : goal.returns-clause-total
returns-clause-total c = pairs-total c.draws_are_below.ensures

pub returns-clause-count : goal.returns-clause-count
returns-clause-count c = pairs-count
