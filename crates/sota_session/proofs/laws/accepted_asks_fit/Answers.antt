use Rattle.sota_session.proofs.Accepted.{few-cells}
use Rattle.sota_session.proofs.laws.accepted_asks_fit.Goals as goal

pub returns : goal.returns
returns c = λ net ask accepted. few-cells net ask accepted
