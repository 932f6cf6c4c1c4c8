use Rattle.sota_network.proofs.Walking.{region-closed}
use Rattle.sota_network.proofs.laws.region_closes.Goals as goal

pub returns : goal.returns
returns c = λ net origin dest last i t j u valid inside reads. region-closed net valid i t j u reads origin dest last inside
