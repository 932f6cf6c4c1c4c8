use Rattle.sota_network.proofs.Outward.{covered}
use Rattle.sota_network.proofs.laws.covering_values.Goals as goal

pub returns : goal.returns
returns c = λ net dest values valid covers i t tree fits. covered net valid dest values covers tree i t fits
