use Rattle.sota_replay.proofs.Roads.{road-leads}
use Rattle.sota_replay.proofs.laws.certified_roads.Goals as goal

pub returns-clause-leaves : goal.returns-clause-leaves
returns-clause-leaves c = λ net table i t arc certified is. (road-leads net table i t certified).0 arc is

pub returns-clause-none : goal.returns-clause-none
returns-clause-none c = λ net table i t certified none. (road-leads net table i t certified).1 none
