use Rattle.sota_network.proofs.Budget.{by_budget-is}
use Rattle.sota_network.proofs.laws.steps_settle.Goals as goal

pub returns : goal.returns
returns c = λ x step causal i t. by_budget-is x step causal i t
