use Rattle.sota_network.proofs.Recursion.{arc-valid}
use Rattle.sota_network.proofs.laws.arcs_by_number.Goals as goal

pub returns : goal.returns
returns c = λ net number arc valid is. arc-valid net valid number arc is
