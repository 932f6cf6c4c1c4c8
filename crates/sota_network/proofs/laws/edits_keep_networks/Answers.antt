use Rattle.sota_network.proofs.Replaced.{replaced-valid}
use Rattle.sota_network.proofs.laws.edits_keep_networks.Goals as goal

pub returns : goal.returns
returns c = λ net arc time valid rises sum. replaced-valid net arc time valid rises sum
