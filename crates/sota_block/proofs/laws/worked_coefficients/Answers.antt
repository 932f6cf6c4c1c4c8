use Rattle.std.proofs.Common.{refl}
use Rattle.sota_block.specs.Product.{coefficient}
use Rattle.sota_block.proofs.laws.worked_coefficients.Goals as goal

pub returns : goal.returns
unfolding coefficient
returns c = refl
